-- Of so many disks of the header those stand that don't come later.
use Rattle.geo_moves.specs.Openings.{IsOpened, stood}
use Rattle.geo_moves.proofs.begins.stand_all.Given as goal

abbrev pub invariant-loop-disk : goal.invariant-loop-disk
invariant-loop-disk l = IsOpened (stood l.plan l.disks.items l.disk) l.state
