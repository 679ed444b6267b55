use Rattle.std.proofs.Common.{refl}
use Rattle.std.proofs.lemmas.Option.{slice_get_read}
use Rattle.geo_moves.proofs.Grown.{disk-size, seat-free, stood-kept, stood-told}
use Rattle.geo_moves.proofs.stands.stand.Goals as goal

-- a firm world has disks of sizes that a provider may have
pub grow-requires-clause-size : goal.grow-requires-clause-size
grow-requires-clause-size c =
    let s = c.args.state.now in
    let seat = c.index-seat.result.now in
    disk-size s c.args.disk seat
    (slice_get_read s.disks.items _ c.args.disk seat refl c.requires.there c.index-seat.ensures) c.requires.stands.firm

pub grow-requires-clause-free : goal.grow-requires-clause-free
grow-requires-clause-free c =
    let s = c.args.state.now in
    let seat = c.index-seat.result.now in
    seat-free s c.args.disk seat
    (slice_get_read s.disks.items _ c.args.disk seat refl c.requires.there c.index-seat.ensures) c.requires.free

-- the seat has the number of the new geom, and the mesh that geom and its provider
pub returns-clause-stood : goal.returns-clause-stood
returns-clause-stood c = λ actors log.
    let s = c.args.state.now in
    let seat = c.index-seat.result.now in
    stood-told s c.args.disk seat
    (slice_get_read s.disks.items _ c.args.disk seat refl c.requires.there c.index-seat.ensures)
    c.grow.new.state c.set_geom.new.state c.disk.result c.disk.ensures c.in_ok-id.id c.in_ok-id.ensures.number
    c.in_ok-id.ensures.grown c.set_geom.ensures.seat c.set_geom.ensures.rest actors log

-- no geom stood for the disk before, and the one that its seat names now does
pub returns-clause-kept : goal.returns-clause-kept
returns-clause-kept c =
    let s = c.args.state.now in
    let seat = c.index-seat.result.now in
    stood-kept s c.args.disk seat
    (slice_get_read s.disks.items _ c.args.disk seat refl c.requires.there c.index-seat.ensures)
    c.grow.new.state c.set_geom.new.state c.disk.result c.disk.ensures c.in_ok-id.id c.in_ok-id.ensures.number
    c.in_ok-id.ensures.grown c.set_geom.ensures.seat c.set_geom.ensures.rest c.requires.stands
    c.requires.absent
