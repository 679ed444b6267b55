use Rattle.std.proofs.Common.{refl}
use Rattle.geo_tags.proofs.Submitted.{accepts, given, replies, room, surely_a_close}
use Rattle.geo_tags.proofs.calls.submit.Goals as goal

-- a close needs no room
pub returns-in_err-make_room-clause-sure : goal.returns-in_err-make_room-clause-sure
returns-in_err-make_room-clause-sure c sure =
    let ok =
    c.in_err-make_room.ensures.sure
    (surely_a_close c.args.session.now c.args.tokens.now c.args.actor c.args.command c.no_commands.ensures sure) in
    absurd (let no : ⊥ = cc ok in no)

pub returns-in-Replied-clause-waits : goal.returns-in-Replied-clause-waits
returns-in-Replied-clause-waits c =
    (replies (given c.args.session.now c.command-2.new.self c.args.tokens.now c.make_room.new.tokens
    c.args.actor c.args.command c.make_room.ensures.kept c.requires.waits c.no_commands.ensures
    c.in-Some.ensures.fits c.in_ok-accepted.ensures.answer) c.in-Replied.line c.in-Replied.reply
    c.args.token c.in-Replied.is).waits

pub returns-in-Replied-clause-submits : goal.returns-in-Replied-clause-submits
returns-in-Replied-clause-submits c =
    (replies (given c.args.session.now c.command-2.new.self c.args.tokens.now c.make_room.new.tokens
    c.args.actor c.args.command c.make_room.ensures.kept c.requires.waits c.no_commands.ensures
    c.in-Some.ensures.fits c.in_ok-accepted.ensures.answer) c.in-Replied.line c.in-Replied.reply c.args.token
    c.in-Replied.is).submits

pub insert_reserved-requires : goal.insert_reserved-requires
insert_reserved-requires c =
    room (given c.args.session.now c.command-2.new.self c.args.tokens.now c.make_room.new.tokens
    c.args.actor c.args.command c.make_room.ensures.kept c.requires.waits c.no_commands.ensures
    c.in-Some.ensures.fits c.in_ok-accepted.ensures.answer) c.in_default-2.not-Replied c.in_ok-make_room.ensures.room

pub returns : goal.returns
returns c =
    let it =
    accepts (given c.args.session.now c.command-2.new.self c.args.tokens.now c.make_room.new.tokens
    c.args.actor c.args.command c.make_room.ensures.kept c.requires.waits c.no_commands.ensures
    c.in-Some.ensures.fits c.in_ok-accepted.ensures.answer) c.in_default-2.not-Replied c.args.token
    c.insert_reserved.new.self c.insert_reserved.result c.insert_reserved.ensures.key
    c.insert_reserved.ensures.was_vacant c.insert_reserved.ensures.updates in
    record { waits = it.waits; free = c.next_tag.ensures.free; submits = it.submits; sure = λ sure. refl }
