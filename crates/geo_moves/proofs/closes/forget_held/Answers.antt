use Rattle.geo_moves.proofs.Stepping.{written-room, step-placed, step-holder, step-idle, close-made, close-kept}
use Rattle.geo_moves.proofs.closes.forget_held.Goals as goal

-- for each condition: consumers are attached, this one is DEV's and idle, and a place is kept for each written provider
pub give_back-requires-clause-placed : goal.give_back-requires-clause-placed
give_back-requires-clause-placed g c = step-placed c.args.state.now c.requires.stands

pub give_back-requires-clause-holder : goal.give_back-requires-clause-holder
give_back-requires-clause-holder g c =
    step-holder c.args.state.now c.requires.stands c.args.id c.args.cons c.requires.idle

pub give_back-requires-clause-idle : goal.give_back-requires-clause-idle
give_back-requires-clause-idle g c =
    step-idle c.args.state.now c.requires.stands c.args.id c.args.cons c.requires.idle

pub give_back-requires-clause-room : goal.give_back-requires-clause-room
give_back-requires-clause-room g c = written-room c.args.state.now c.requires.stands

-- no other handle has the number or the consumer, so forgetting both is the model's close, with what falls by it
pub returns-clause-made : goal.returns-clause-made
returns-clause-made g c =
    close-made c.args.state.now c.requires.stands c.args.id c.args.cons c.requires.idle
    c.give_back.new.topo c.give_back.new.queue c.remove.new.self c.give_back.ensures.gone c.remove.ensures.removed

-- the consumer held no request, so nothing that is kept of requests and handles refers to it any more
pub returns-clause-kept : goal.returns-clause-kept
returns-clause-kept g c =
    close-kept c.args.state.now c.requires.stands c.args.id c.args.cons c.requires.idle
    c.give_back.new.topo c.give_back.new.queue c.remove.new.self c.give_back.ensures.gone c.remove.ensures.removed
