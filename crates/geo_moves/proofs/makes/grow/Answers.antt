use Rattle.geo_base.proofs.Options.{on_error}
use Rattle.geo_state.specs.declared.state.State.{State}
use Rattle.geo_state.specs.Holds.{Holds}
use Rattle.geo_moves.proofs.Grown.{roomy-kept}
use Rattle.geo_moves.proofs.makes.grow.Goals as goal

-- memory was wanting after events had room: the mesh is the same, and more room harms nothing
pub returns-in_err-id-clause-kept : goal.returns-in_err-id-clause-kept
returns-in_err-id-clause-kept c =
    let r : State = c.reserve_events.new.state in
    on_error (Holds (record r { topo = c.build.new.topo; queue = c.build.new.queue }))
    c.from_residual-in_err-id.result
    (roomy-kept c.args.state.now r c.reserve_events.ensures.rest c.reserve_events.ensures.events_stay c.build.new.topo
    c.build.new.queue c.in_err-id.ensures.same c.reserve_events.ensures.kept c.build.ensures.spare
    c.in_ok-reserve_events.ensures.room)
