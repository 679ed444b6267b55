use Rattle.std.proofs.Common.{sym, subst}
use Rattle.geo_access.specs.Access.{IsCounted}
use Rattle.geo_tests_core.proofs.Building.{built_counted}
use Rattle.geo_tests_core.proofs.holds.open.Goals as goal

pub allowed-may-requires-clause-counted : goal.allowed-may-requires-clause-counted
allowed-may-requires-clause-counted g c = built_counted c.consumer_of.new.topo c.in_ok-cons.ensures

pub grant-requires-clause-counted : goal.grant-requires-clause-counted
grant-requires-clause-counted g c =
    subst IsCounted (sym c.allowed-may.ensures.same) (built_counted c.consumer_of.new.topo c.in_ok-cons.ensures)
