-- With those that are left, in turn, the drives that are back are all; the even list has at least as many.
use Rattle.std.proofs.Common.{◌≡◌, ◌+◌, ◌++◌, ◌≤◌, length, vec_len, vec_capacity}
use Rattle.geo_jobs.specs.Deal.{gathered_drives}
use Rattle.geo_jobs.proofs.deal.gather.Given as goal

abbrev pub invariant-loop-drive : goal.invariant-loop-drive
invariant-loop-drive g l =
    (l.back.items ++ gathered_drives l.even.items l.odd.items
    ≡ l.fn.back.items ++ gathered_drives l.fn.even.items l.fn.odd.items)
    × (length l.odd.items ≤ length l.even.items)
    × (vec_len l.back + length l.even.items + length l.odd.items ≤ vec_capacity l.back)

abbrev pub decreases-loop-drive : goal.decreases-loop-drive
decreases-loop-drive g l = length l.even.items
