use Rattle.geo_lane.specs.LanePass.{IsSamePass}
use Rattle.geo_tests_threads.proofs.lane.take_all.Given as goal

abbrev pub invariant-loop : goal.invariant-loop
invariant-loop g l = (goal.iterator-loop g).can_next l.iterator' × (goal.iterator-loop g).is_finite l.iterator'
    × IsSamePass l.initial.pass l.pass
