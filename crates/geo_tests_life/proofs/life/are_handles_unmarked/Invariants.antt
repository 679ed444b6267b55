use Rattle.std.proofs.Common.{◌-◌}
use Rattle.std.specs.Prelude.{All}
use Rattle.geo_model.specs.Topology.{consumers_of}
use Rattle.geo_tests_life.proofs.Walks.{IsUnmarked, users_left}
use Rattle.geo_life.specs.Life.{AreHandlesUnmarked}
use Rattle.geo_tests_life.proofs.life.are_handles_unmarked.Given as goal

abbrev pub invariant-loop-id : goal.invariant-loop-id
invariant-loop-id l =
    All IsUnmarked (users_left (consumers_of l.topo.topology 1) l.from) → AreHandlesUnmarked l.topo.topology

abbrev pub decreases-loop-id : goal.decreases-loop-id
decreases-loop-id l = l.topo.topology.next_consumer - l.from
