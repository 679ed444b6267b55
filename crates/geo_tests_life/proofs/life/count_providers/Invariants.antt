use Rattle.std.proofs.Common.{◌-◌, ◌+◌, ◌≤◌}
use Rattle.geo_life.specs.Life.{sound_providers}
use Rattle.geo_tests_life.proofs.Walks.{many_left}
use Rattle.geo_tests_life.proofs.life.count_providers.Given as goal

abbrev pub invariant-loop-prov : goal.invariant-loop-prov
invariant-loop-prov l = record {
  many : sound_providers l.topo.topology ≤ l.count + many_left l.topo.topology l.from;
  low : l.count ≤ l.from;
}

abbrev pub decreases-loop-prov : goal.decreases-loop-prov
decreases-loop-prov l = l.topo.topology.next_provider - l.from
