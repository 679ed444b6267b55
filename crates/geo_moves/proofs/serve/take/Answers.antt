use Rattle.std.proofs.Common.{ap, length}
use Rattle.geo_bio.specs.BioTable.{BioTableView}
use Rattle.geo_moves.proofs.Against.{taken_bio, take_sent, take_goes, take_free, take_seat, moved_taken, makes_taken, logged_taken}
use Rattle.geo_moves.proofs.serve.take.Goals as goal

-- nothing is against the Take, so the bio is Sent
pub take-requires : goal.take-requires
take-requires c = take_sent c.args.state.now c.requires.stands c.args.bio c.args.seat c.args.disk c.requires.enabled

-- and its disk has a seat
pub set_busy-requires : goal.set_busy-requires
set_busy-requires c = take_seat c.args.state.now c.requires.stands c.args.bio c.args.seat c.args.disk c.requires.enabled

-- the bio is Busy by this seat, and what is asked of the disk is what the model asks; nothing was at the disk, so this
-- bio alone is at it now
pub returns : goal.returns
returns c =
    let s = c.args.state.now in
    let stands = c.requires.stands in
    let b = c.args.bio in
    let seat = c.args.seat in
    let disk = c.args.disk in
    let x = taken_bio s stands b seat disk c.requires.enabled in
    let there = x.found in
    let new = c.set_busy.new.state in
    let left = moved_taken s new c.take.new.self b disk stands.kept c.take.ensures.in_order
    (take_goes s stands b seat disk c.requires.enabled) c.set_busy.ensures.rest seat
    (take_sent s stands b seat disk c.requires.enabled) (take_free s stands b seat disk c.requires.enabled)
    c.take.ensures.taken c.set_busy.ensures.seat in
    let bios = ap (λ (v : BioTableView). v.bios) left.turned in
    let next = ap (λ (v : BioTableView). v.next) left.turned in
    record {
      made =
          λ log.
          makes_taken s new b seat disk x.bio there left.only bios next
          c.in_ok-request.request (rw there at c.in_ok-request.ensures) c.requires.enabled log;
      kept = left.kept;
      same = tt;
      logged = λ log logged. logged_taken s new b seat disk x.bio there left.only bios next (length log) logged;
    }
