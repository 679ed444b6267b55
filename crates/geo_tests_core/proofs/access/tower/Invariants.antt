use Rattle.geo_tests_core.specs.Built.{IsBuilt}
use Rattle.geo_tests_core.proofs.access.tower.Given as goal

abbrev pub invariant-loop-storey : goal.invariant-loop-storey
invariant-loop-storey l = IsBuilt l.topo
