use Rattle.std.proofs.Common.{sym, ◌∙◌, refl}
use Rattle.std.proofs.lemmas.Option.{slice_get_read}
use Rattle.geo_moves.proofs.Finding.{disk-standing, disk-absent, disk-withering}
use Rattle.geo_moves.proofs.disks.standing_geom.Goals as goal

-- Each way out: the seat's geom, if it has one, is the only one of the disk, and may wither
pub returns-in_err-geom : goal.returns-in_err-geom
returns-in_err-geom c =
    let s = c.args.state.now in
    let seat = c.index.result.now in
    rw c.from_residual.ensures
    (disk-absent s c.requires.stands c.args.disk seat
    (slice_get_read s.disks.items _ c.args.disk seat refl c.requires.there c.index.ensures) c.in_err-geom.was)

pub returns-then-is_standing : goal.returns-then-is_standing
returns-then-is_standing c =
    let s = c.args.state.now in
    let seat = c.index.result.now in
    disk-standing s c.requires.stands c.args.disk seat
    (slice_get_read s.disks.items _ c.args.disk seat refl c.requires.there c.index.ensures) c.in_ok-geom.geom
    c.in_ok-geom.was (sym c.is_standing.ensures ∙ c.if-is_standing.true)

pub returns-else-is_standing : goal.returns-else-is_standing
returns-else-is_standing c =
    let s = c.args.state.now in
    let seat = c.index.result.now in
    disk-withering s c.requires.stands c.args.disk seat
    (slice_get_read s.disks.items _ c.args.disk seat refl c.requires.there c.index.ensures) c.in_ok-geom.geom
    c.in_ok-geom.was (sym c.is_standing.ensures ∙ c.if-is_standing.false)
