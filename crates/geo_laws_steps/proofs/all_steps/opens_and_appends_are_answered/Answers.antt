use Rattle.geo_laws_steps.proofs.AnsweredLogs.{opens_are_answered, appends_are_answered}
use Rattle.geo_laws_steps.proofs.all_steps.opens_and_appends_are_answered.Goals as goal

pub returns-clause-opens : goal.returns-clause-opens
returns-clause-opens c = opens_are_answered

pub returns-clause-appends : goal.returns-clause-appends
returns-clause-appends c = appends_are_answered
