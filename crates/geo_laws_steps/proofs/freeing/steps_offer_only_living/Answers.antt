use Rattle.geo_laws_steps.proofs.Offers.{steps_offer_only_living}
use Rattle.geo_laws_steps.proofs.freeing.steps_offer_only_living.Goals as goal

pub returns : goal.returns
returns c = steps_offer_only_living
