use Rattle.std.proofs.Common.{◌≡◌, ◌≤◌, ◌++◌, length}
use Rattle.std.specs.Vec.Iter.{into_iter_items}
use Rattle.geo_tests_jobs.specs.Standing.{passes_of}
use Rattle.geo_tests_jobs.proofs.jobs.take_back.Given as goal

abbrev pub invariant-loop-worker : goal.invariant-loop-worker
invariant-loop-worker l =
    goal.iterator-loop-worker.can_next l.worker-iterator × goal.iterator-loop-worker.is_finite l.worker-iterator
    × (l.passes.items ≡ l.fn.passes.items ++ passes_of l.yielded)
    × (l.yielded ++ into_iter_items l.worker-iterator ≡ l.fn.workers.items)
    × (length (into_iter_items l.worker-iterator) ≤ l.passes.spare)
