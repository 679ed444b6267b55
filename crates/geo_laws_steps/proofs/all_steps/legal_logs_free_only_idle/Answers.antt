use Rattle.geo_laws_steps.proofs.FreedLogs.{legal_logs_free_only_idle, legal_logs_offer_only_living}
use Rattle.geo_laws_steps.proofs.all_steps.legal_logs_free_only_idle.Goals as goal

pub returns-clause-freed : goal.returns-clause-freed
returns-clause-freed c = legal_logs_free_only_idle

pub returns-clause-offered : goal.returns-clause-offered
returns-clause-offered c = legal_logs_offer_only_living
