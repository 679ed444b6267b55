use Rattle.std.proofs.Common.{sym}
use Rattle.geo_model.specs.Bios.{up_with}
use Rattle.geo_state.proofs.Fields.{ended-seen}
use Rattle.geo_moves.proofs.Against.{IsDelivering, delivering_requires, deliver_has_disk, moved_answered, makes_kept, logged_kept, some_disk}
use Rattle.geo_moves.proofs.serve.deliver_kept.Goals as goal

-- in a firm world a bio that a seat has is at its disk, and alone there
pub end-requires : goal.end-requires
end-requires c =
    (delivering_requires c.args.state.now c.requires.stands c.args.bio c.args.seat c.args.got c.requires.enabled
    c.in-Some.disk (sym c.in-Some.ensures)).busy

-- which has a seat
pub set_busy-requires : goal.set_busy-requires
set_busy-requires c =
    (delivering_requires c.args.state.now c.requires.stands c.args.bio c.args.seat c.args.got c.requires.enabled
    c.in-Some.disk (sym c.in-Some.ensures)).seat

-- the bio holds just what was answered; it alone was at the disk, so once it has answered the disk's seat is free
pub returns-in-Some : goal.returns-in-Some
returns-in-Some c =
    let s = c.args.state.now in
    let new = c.set_busy.new.state in
    let firm = c.requires.stands.firm in
    let b = c.args.bio in
    let disk = c.in-Some.disk in
    let got = c.args.got in
    let held = c.held_of.result in
    let well : IsDelivering s b disk = delivering_requires s c.requires.stands b c.args.seat got
    c.requires.enabled disk (sym c.in-Some.ensures) in
    let left = moved_answered s new c.end.new.self b disk c.requires.stands.kept c.end.ensures.in_order
    well.goes c.set_busy.ensures.rest (up_with held) (ended-seen held) well.busy well.alone c.end.ensures.ended
    c.set_busy.ensures.seat in
    record {
      made =
          makes_kept s new firm b c.args.seat got c.requires.enabled held c.held_of.ensures left.only left.turned;
      kept = left.kept;
      logged =
          logged_kept s new firm b c.args.seat got c.requires.enabled held c.held_of.ensures left.only left.turned;
    }

-- for both clauses: a bio that is at a disk goes to one
pub returns-in-None-clause-made : goal.returns-in-None-clause-made
returns-in-None-clause-made c log actors =
    absurd (some_disk _ c.in-None.ensures
    (deliver_has_disk c.args.state.now c.requires.stands.firm c.args.bio c.args.seat c.args.got c.requires.enabled))

pub returns-in-None-clause-logged : goal.returns-in-None-clause-logged
returns-in-None-clause-logged c log logged =
    absurd (some_disk _ c.in-None.ensures
    (deliver_has_disk c.args.state.now c.requires.stands.firm c.args.bio c.args.seat c.args.got c.requires.enabled))
