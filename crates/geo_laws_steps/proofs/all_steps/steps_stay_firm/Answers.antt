use Rattle.geo_laws_steps.proofs.Stepped.{steps_stay_firm}
use Rattle.geo_laws_steps.proofs.all_steps.steps_stay_firm.Goals as goal

pub returns : goal.returns
returns c = steps_stay_firm
