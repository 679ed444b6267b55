-- The workers so far gave their passes and their drives in order, and there is room for those that are left.
use Rattle.std.proofs.Common.{◌≡◌, ◌+◌, ◌≤◌, ◌++◌, length, vec_len, vec_capacity}
use Rattle.std.specs.Vec.Iter.{into_iter_items}
use Rattle.geo_jobs.specs.Closing.{lists_of, passes_of}
use Rattle.geo_jobs.proofs.close.take_back.Given as goal

abbrev pub invariant-loop-worker : goal.invariant-loop-worker
invariant-loop-worker g l =
    (goal.iterator-loop-worker g).can_next l.worker-iterator × (goal.iterator-loop-worker g).is_finite l.worker-iterator
    × (l.passes.items ≡ l.fn.passes.items ++ passes_of l.yielded)
    × (l.lists.items ≡ l.fn.lists.items ++ lists_of l.yielded)
    × (l.yielded ++ into_iter_items l.worker-iterator ≡ l.fn.workers.items)
    × (length (into_iter_items l.worker-iterator) ≤ l.passes.spare)
    × (vec_len l.lists + length (into_iter_items l.worker-iterator) ≤ vec_capacity l.lists)
