use Rattle.std.proofs.Common.{sym, subst}
use Rattle.geo_model.specs.World.{Config}
use Rattle.geo_mesh.specs.Topo.{TopoView}
use Rattle.geo_state.specs.declared.state.State.{State}
use Rattle.geo_state.specs.Holds.{Holds}
use Rattle.geo_moves.proofs.Started.{noted_holds}
use Rattle.geo_moves.proofs.starts.note_started.Goals as goal

-- how many requests a geom has started is seen by nothing that is kept
pub returns-clause-kept : goal.returns-clause-kept
returns-clause-kept c =
    subst (λ (t : TopoView Config). let s : State = record c.args.state.now { topo = t } in Holds s)
    (sym c.note_started.ensures) (noted_holds c.args.state.now c.args.geom c.requires.kept)
