use Rattle.std.specs.Prelude.{IsSome}
use Rattle.std.proofs.Common.{sym, subst}
use Rattle.geo_handles.specs.Handles.{HandlesView, handle_at}
use Rattle.geo_moves.proofs.Stepping.{written-room, step-placed, step-holder, step-idle, step-there, reap-made, reap-kept}
use Rattle.geo_moves.proofs.reaps.let_go.Goals as goal

-- the handle stays when it has no consumer any more
pub set_ready-requires : goal.set_ready-requires
set_ready-requires g c =
    subst (λ (v : HandlesView). IsSome (handle_at v.handles c.args.id)) (sym c.release.ensures.released)
    (step-there c.args.state.now c.requires.stands c.args.id c.args.cons c.requires.idle)

-- for each condition: consumers are attached, this one is DEV's and idle, and a place is kept for each written provider
pub give_back-requires-clause-placed : goal.give_back-requires-clause-placed
give_back-requires-clause-placed g c = step-placed c.args.state.now c.requires.stands

pub give_back-requires-clause-holder : goal.give_back-requires-clause-holder
give_back-requires-clause-holder g c =
    step-holder c.args.state.now c.requires.stands c.args.id c.args.cons c.requires.idle

pub give_back-requires-clause-idle : goal.give_back-requires-clause-idle
give_back-requires-clause-idle g c =
    step-idle c.args.state.now c.requires.stands c.args.id c.args.cons c.requires.idle

pub give_back-requires-clause-room : goal.give_back-requires-clause-room
give_back-requires-clause-room g c = written-room c.args.state.now c.requires.stands

-- no other handle has the consumer, so letting it go is the model's reap, with what falls by it
pub returns-clause-made : goal.returns-clause-made
returns-clause-made g c =
    reap-made c.args.state.now c.requires.stands c.args.id c.args.cons c.requires.idle
    c.give_back.new.topo c.give_back.new.queue c.set_ready.new.self c.give_back.ensures.gone
    c.release.new.self c.release.ensures.released c.set_ready.ensures

pub returns-clause-kept : goal.returns-clause-kept
returns-clause-kept g c =
    reap-kept c.args.state.now c.requires.stands c.args.id c.args.cons c.requires.idle
    c.give_back.new.topo c.give_back.new.queue c.set_ready.new.self c.give_back.ensures.gone
    c.release.new.self c.release.ensures.released c.set_ready.ensures
