use Rattle.std.proofs.Common.{ap, ◌∙◌}
use Rattle.geo_handles.specs.Handles.{HandlesView}
use Rattle.geo_state.specs.declared.state.State.{State}
use Rattle.geo_state.specs.Ready.{refreshed}
use Rattle.geo_state.proofs.Rises.{holds-killed}
use Rattle.geo_state.proofs.handles.kill.Goals as goal

-- no other handle has the consumer, so only whether this one can be reaped has to be noted anew
pub returns-clause-kept : goal.returns-clause-kept
returns-clause-kept c =
    let s : State = c.args.state.now in
    let new : State = record s { handles = c.refresh.new.handles } in
    holds-killed s new c.args.cons c.requires.lives (c.kill.ensures.apart c.args.cons)
    (ap (λ (v : HandlesView). let z : State = record s { handles = v } in z)
    (c.refresh.ensures.refreshed
    ∙ ap (λ (v : HandlesView). let u : HandlesView = record v { ready = refreshed v s.topo c.args.cons } in u)
    c.kill.ensures.killed)) c.requires.kept
