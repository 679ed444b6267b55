-- The drives so far stand with the even or the odd worker by their numbers, and both have room for those that are left.
use Rattle.std.proofs.Common.{◌≡◌, ◌++◌, ◌≤◌, length}
use Rattle.std.specs.Vec.Iter.{into_iter_items}
use Rattle.geo_jobs.specs.Deal.{dealt}
use Rattle.geo_jobs.proofs.deal.deal.Given as goal

abbrev pub invariant-loop-drive : goal.invariant-loop-drive
invariant-loop-drive g l =
    (goal.iterator-loop-drive g).can_next l.drive-iterator × (goal.iterator-loop-drive g).is_finite l.drive-iterator
    × (l.even.items ≡ dealt 0 l.yielded)
    × (l.odd.items ≡ dealt 1 l.yielded)
    × (l.disk ≡ length l.yielded)
    × (l.yielded ++ into_iter_items l.drive-iterator ≡ l.fn.drives.items)
    × (length (into_iter_items l.drive-iterator) ≤ l.even.spare)
    × (length (into_iter_items l.drive-iterator) ≤ l.odd.spare)
