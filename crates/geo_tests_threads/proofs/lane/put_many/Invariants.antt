use Rattle.std.proofs.Common.{◌≤◌, length}
use Rattle.geo_lane.specs.LanePass.{IsSamePass}
use Rattle.geo_tests_threads.proofs.lane.put_many.Given as goal

abbrev pub invariant-loop-bio : goal.invariant-loop-bio
invariant-loop-bio g l = IsSamePass l.fn.pass l.pass × (length l.pass.put ≤ l.bio)
