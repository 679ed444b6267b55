use Rattle.std.proofs.Common.{◌≡◌, length}
use Rattle.geo_tests_jobs.specs.Standing.{AreStanding}
use Rattle.geo_tests_jobs.proofs.jobs.go_each.Given as goal

abbrev pub invariant-loop-k : goal.invariant-loop-k
invariant-loop-k g l =
    AreStanding l.yard l.lanes 1 l.workers.items × (length l.workers.items ≡ length l.fn.workers.items)
