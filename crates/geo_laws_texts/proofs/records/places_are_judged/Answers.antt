use Rattle.geo_laws_texts.proofs.RecordProofs.{concat_places_are_judged, stripe_places_are_judged}
use Rattle.geo_laws_texts.proofs.records.places_are_judged.Goals as goal

pub returns-clause-concats : goal.returns-clause-concats
returns-clause-concats c = concat_places_are_judged

pub returns-clause-stripes : goal.returns-clause-stripes
returns-clause-stripes c = stripe_places_are_judged
