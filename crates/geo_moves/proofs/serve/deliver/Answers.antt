use Rattle.std.proofs.Common.{sym}
use Rattle.geo_bio.specs.BioTable.{delivered}
use Rattle.geo_state.proofs.Fields.{delivered-seen}
use Rattle.geo_moves.proofs.Against.{IsDelivering, delivering_requires, deliver_has_disk, moved_answered, delivery_made, delivery_logged, some_disk}
use Rattle.geo_moves.proofs.serve.deliver.Goals as goal

-- in a firm world a bio that a seat has is at its disk, and alone there
pub deliver-requires : goal.deliver-requires
deliver-requires c =
    (delivering_requires c.args.state.now c.requires.stands c.args.bio c.args.seat c.args.got.now c.requires.enabled
    c.in-Some.disk (sym c.in-Some.ensures)).busy

-- which has a seat
pub set_busy-requires : goal.set_busy-requires
set_busy-requires c =
    (delivering_requires c.args.state.now c.requires.stands c.args.bio c.args.seat c.args.got.now c.requires.enabled
    c.in-Some.disk (sym c.in-Some.ensures)).seat

-- the place that is kept is that of the entry that comes, so its bytes are those that were answered, and the log has
-- it too once this entry is in it; this bio alone was at the disk, so once it has answered the disk's seat is free
pub returns-in-Some : goal.returns-in-Some
returns-in-Some c =
    let s = c.args.state.now in
    let new = c.set_busy.new.state in
    let firm = c.requires.stands.firm in
    let b = c.args.bio in
    let disk = c.in-Some.disk in
    let place = c.len.result in
    let errno = c.errno_of.result in
    let got = c.args.got.now in
    let goes = sym c.in-Some.ensures in
    let well : IsDelivering s b disk = delivering_requires s c.requires.stands b c.args.seat got
    c.requires.enabled disk goes in
    let left = moved_answered s new c.deliver.new.self b disk c.requires.stands.kept c.deliver.ensures.in_order
    well.goes c.set_busy.ensures.rest (delivered place errno) (delivered-seen place errno) well.busy well.alone
    c.deliver.ensures.delivered c.set_busy.ensures.seat in
    record {
      made =
          delivery_made s new firm b c.args.seat disk place errno got c.args.log.now.items c.requires.enabled goes
          c.requires.logged left.only left.turned c.len.ensures c.errno_of.ensures;
      kept = left.kept;
      logged =
          delivery_logged s new firm b c.args.seat disk place errno got c.args.log.now.items c.requires.enabled goes
          c.requires.logged left.only left.turned c.len.ensures c.errno_of.ensures;
    }

-- for both clauses: a bio that is at a disk goes to one
pub returns-in-None-clause-made : goal.returns-in-None-clause-made
returns-in-None-clause-made c e step actors =
    absurd (some_disk _ c.in-None.ensures
    (deliver_has_disk c.args.state.now c.requires.stands.firm c.args.bio c.args.seat c.args.got.now c.requires.enabled))

pub returns-in-None-clause-logged : goal.returns-in-None-clause-logged
returns-in-None-clause-logged c e =
    absurd (some_disk _ c.in-None.ensures
    (deliver_has_disk c.args.state.now c.requires.stands.firm c.args.bio c.args.seat c.args.got.now c.requires.enabled))
