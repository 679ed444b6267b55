use Rattle.geo_model.proofs.RestLemmas.{pick-rest}
use Rattle.geo_model.proofs.laws.pick_ends_at_rest.Goals as goal

pub returns : goal.returns
returns c w log rest = pick-rest w rest
