use Rattle.geo_laws_owed.proofs.OwedSteps.{owed_changes}
use Rattle.geo_laws_owed.proofs.steps_change_what_is_owed.Goals as goal

pub returns : goal.returns
returns c = owed_changes
