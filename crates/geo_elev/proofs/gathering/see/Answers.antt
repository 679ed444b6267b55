use Rattle.std.proofs.Common.{List, subst}
use Rattle.geo_elev.specs.declared.disks.DiskHead.{DiskHead}
use Rattle.geo_elev.specs.Disks.{ChangesOne, HeadMoves}
use Rattle.geo_elev.proofs.Gathered.{moved_then}
use Rattle.geo_elev.proofs.gathering.see.Goals as goal

-- the entry asks a disk, whose head moves behind what was asked; no other entry moves a head
pub returns-in-Asked-clause-seen : goal.returns-in-Asked-clause-seen
returns-in-Asked-clause-seen c =
    let q = c.in-Asked.request in
    let new = c.move_head.new.disks in
    λ log n old.
    moved_then log c.args.entry.now n q c.in-Asked.is new
    (subst (λ (ds : List DiskHead). ChangesOne q.disk (HeadMoves q) ds new) old c.move_head.ensures.moves)
