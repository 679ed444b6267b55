use Rattle.geo_script.proofs.PlanLaw.{scripts-are-plans}
use Rattle.geo_script.proofs.laws.scripts_are_plans.Goals as goal

pub returns : goal.returns
returns c = scripts-are-plans
