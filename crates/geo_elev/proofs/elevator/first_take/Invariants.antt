-- The first of those that are left is the first of all.
use Rattle.std.proofs.Common.{◌≡◌, ◌-◌, drop, length, map}
use Rattle.std.specs.List.{enumerate_from}
use Rattle.geo_model.specs.Words.{first_some}
use Rattle.geo_elev.specs.Heads.{take_by}
use Rattle.geo_elev.proofs.elevator.first_take.Given as goal

abbrev pub invariant-loop-disk : goal.invariant-loop-disk
invariant-loop-disk l =
    first_some (map take_by (enumerate_from l.at (drop l.at l.disks)))
    ≡ first_some (map take_by (enumerate_from 0 l.disks))

abbrev pub decreases-loop-disk : goal.decreases-loop-disk
decreases-loop-disk l = length l.disks - l.at
