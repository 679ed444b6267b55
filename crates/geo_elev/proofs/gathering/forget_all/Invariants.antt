-- Those so far are forgotten.
use Rattle.std.proofs.Common.{◌≡◌, ◌-◌, length}
use Rattle.geo_elev.proofs.Gathered.{gone}
use Rattle.geo_elev.proofs.gathering.forget_all.Given as goal

abbrev pub invariant-loop-at : goal.invariant-loop-at
invariant-loop-at l = l.disks ≡ gone l.at l.fn.disks

abbrev pub decreases-loop-at : goal.decreases-loop-at
decreases-loop-at l = length l.fn.disks - l.at
