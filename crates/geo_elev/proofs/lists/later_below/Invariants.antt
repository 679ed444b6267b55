-- Those that are left tell of all.
use Rattle.std.proofs.Common.{◌≡◌, ◌-◌, drop, length}
use Rattle.geo_elev.specs.Lists.{are_below, waiting_in}
use Rattle.geo_elev.proofs.lists.later_below.Given as goal

abbrev pub invariant-loop-at : goal.invariant-loop-at
invariant-loop-at l =
    are_below l.bio (waiting_in (drop l.at l.later.items)) ≡ are_below l.bio (waiting_in l.later.items)

abbrev pub decreases-loop-at : goal.decreases-loop-at
decreases-loop-at l = length l.later.items - l.at
