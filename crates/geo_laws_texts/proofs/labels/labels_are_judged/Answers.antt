use Rattle.geo_laws_texts.proofs.LabelProofs.{labels_are_judged}
use Rattle.geo_laws_texts.proofs.labels.labels_are_judged.Goals as goal

pub returns : goal.returns
returns c = labels_are_judged
