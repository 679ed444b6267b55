use Rattle.std.proofs.Common.{ap, ◌∙◌}
use Rattle.geo_model.proofs.FirmLemmas.{sound_of, steady_of}
use Rattle.geo_life.proofs.Spared.{handles_are_spared}
use Rattle.geo_state.specs.World.{world}
use Rattle.geo_handles.specs.Handles.{holding_handle}
use Rattle.geo_state.proofs.FirmLemmas.{firm-order}
use Rattle.geo_moves.proofs.Settling.{roomed-kept}
use Rattle.geo_moves.proofs.Admitting.{nobodys-next, next-unknown, mesh-roomed, admit-made, admit-kept}
use Rattle.geo_moves.proofs.Stepping.{step-placed}
use Rattle.geo_state.specs.declared.state.State.{State}
use Rattle.geo_moves.proofs.opens.open_at.Goals as goal

pub take_in-requires-clause-placed : goal.take_in-requires-clause-placed
take_in-requires-clause-placed g c = step-placed c.args.state.now c.requires.stands

-- the next number was given to no consumer yet, so no request is counted through it
pub take_in-requires-clause-unknown : goal.take_in-requires-clause-unknown
take_in-requires-clause-unknown g c =
    next-unknown c.args.state.now c.requires.stands.kept
    (firm-order c.requires.stands.firm.0 c.args.state.now c.requires.stands.firm.1)

-- a handle's consumer stands in a firm world, and the next number has no consumer yet
pub open-requires-clause-nobodys : goal.open-requires-clause-nobodys
open-requires-clause-nobodys g c =
    ap (holding_handle c.args.state.now.handles.handles) c.in_ok-cons.ensures.number
    ∙ nobodys-next c.args.state.now c.requires.stands

pub returns-in_err-cons-clause-kept : goal.returns-in_err-cons-clause-kept
returns-in_err-cons-clause-kept g c =
    let s : State = c.args.state.now in
    roomed-kept s (record s { topo = c.take_in.new.topo; queue = c.take_in.new.queue })
    (mesh-roomed s c.take_in.new.topo c.take_in.new.queue c.in_err-cons.ensures.same c.in_err-cons.ensures.queue_stays)
    c.requires.stands.kept

-- the consumer that came has the number that was next, as in the model, and the new handle has it
pub returns-clause-made : goal.returns-clause-made
returns-clause-made g c =
    admit-made c.args.state.now c.requires.stands c.args.actor c.args.name.now
    c.args.prov c.args.grant c.requires.room c.take_in.new.topo c.take_in.new.queue c.open.new.self
    c.in_ok-cons.ensures.came c.in_ok-cons.cons c.in_ok-cons.ensures.number c.open.ensures.opened

-- the handle is new, and so is its consumer, through which nothing is out
pub returns-clause-kept : goal.returns-clause-kept
returns-clause-kept g c =
    admit-kept c.args.state.now c.requires.stands c.args.actor c.args.name.now
    c.args.prov c.args.grant c.requires.room c.take_in.new.topo c.take_in.new.queue c.open.new.self
    c.in_ok-cons.ensures.came c.in_ok-cons.cons c.in_ok-cons.ensures.number c.open.ensures.opened

-- in a sound and steady world no taste made DEV
pub take_in-requires-clause-made : goal.take_in-requires-clause-made
take_in-requires-clause-made g c =
    let w = world c.requires.stands.firm.1.0 c.requires.stands.firm.0 c.args.state.now in
    handles_are_spared.made w (sound_of w c.requires.stands.firm.1.1) (steady_of w c.requires.stands.firm.1.1)
