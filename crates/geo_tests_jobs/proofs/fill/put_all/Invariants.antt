use Rattle.std.proofs.Common.{◌≤◌, length}
use Rattle.geo_lane.specs.LanePass.{IsSamePass}
use Rattle.geo_tests_jobs.proofs.fill.put_all.Given as goal

abbrev pub invariant-loop-bio : goal.invariant-loop-bio
invariant-loop-bio g l = IsSamePass l.fn.pass l.pass × (length l.pass.put ≤ l.bio)
