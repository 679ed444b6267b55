use Rattle.geo_model.proofs.RecordLemmas.{label-read}
use Rattle.geo_class.proofs.label.record.what_is_encoded_is_decoded.Goals as goal

pub returns : goal.returns
returns c size x room fits = label-read size x fits.short fits.size
