use Rattle.geo_tests_core.proofs.Building.{built_counted}
use Rattle.geo_tests_core.proofs.access.asked.Goals as goal

pub could_grant-requires-clause-counted : goal.could_grant-requires-clause-counted
could_grant-requires-clause-counted g c = built_counted _ c.requires
