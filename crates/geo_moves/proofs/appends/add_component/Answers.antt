-- Room for events was reserved first: the world is the same, so what is told of it then holds of it before.
use Rattle.std.specs.Prelude.{◌≤◌, ◌+◌, ◌*◌, length}
use Rattle.std.proofs.Common.{sym, ◌∙◌, ap, subst, arith}
use Rattle.geo_model.specs.Topology.{Topology}
use Rattle.geo_model.specs.World.{Config}
use Rattle.geo_access.specs.Access.{consumers_below}
use Rattle.geo_state.specs.declared.state.State.{State}
use Rattle.geo_moves.proofs.Grown.{roomy-graph}
use Rattle.geo_moves.proofs.Appending.{reserved_able, reserved_firm, reserved_same, reserved_told}
use Rattle.geo_moves.proofs.appends.add_component.Goals as goal

pub add_with_room-requires-clause-stands : goal.add_with_room-requires-clause-stands
add_with_room-requires-clause-stands g c = record {
  kept = c.reserve_events.ensures.kept;
  firm = reserved_firm c.args.state.now c.reserve_events.new.state c.reserve_events.ensures.rest
      c.reserve_events.ensures.events_stay c.requires.stands.firm;
}

pub add_with_room-requires-clause-able : goal.add_with_room-requires-clause-able
add_with_room-requires-clause-able g c =
    reserved_able c.args.state.now c.reserve_events.new.state c.reserve_events.ensures.rest
    c.reserve_events.ensures.events_stay c.args.growing.now c.args.below.now c.requires.able

pub add_with_room-requires-clause-room : goal.add_with_room-requires-clause-room
add_with_room-requires-clause-room g c =
    subst (λ (t : Topology Config). 3 * length t.providers + 128 ≤ c.reserve_events.new.state.queue.spare)
    (sym (roomy-graph c.args.state.now c.reserve_events.new.state c.reserve_events.ensures.rest
    c.reserve_events.ensures.events_stay)) c.in_ok-reserve_events.ensures.room

pub returns-clause-does : goal.returns-clause-does
returns-clause-does g c =
    reserved_told c.args.state.now c.reserve_events.new.state c.reserve_events.ensures.rest
    c.reserve_events.ensures.events_stay c.args.growing.now c.args.below.now c.add_with_room.new.state
    c.add_with_room.result c.add_with_room.ensures.does

pub returns-clause-same : goal.returns-clause-same
returns-clause-same g c =
    reserved_same c.args.state.now c.reserve_events.new.state c.reserve_events.ensures.rest
    c.reserve_events.ensures.events_stay c.args.growing.now c.args.below.now c.add_with_room.new.state
    c.add_with_room.result c.add_with_room.ensures.same

pub returns-clause-traffic : goal.returns-clause-traffic
returns-clause-traffic g c =
    c.add_with_room.ensures.traffic ∙ ap (λ (z : State). z.traffic) c.reserve_events.ensures.rest

pub returns-clause-bound : goal.returns-clause-bound
returns-clause-bound g c =
    let most = c.add_with_room.ensures.bound in
    let same = ap (λ (t : Topology Config). consumers_below t c.args.below.now.prov)
    (roomy-graph c.args.state.now c.reserve_events.new.state c.reserve_events.ensures.rest
    c.reserve_events.ensures.events_stay) in
    omega (arith, most, same)
