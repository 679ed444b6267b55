use Rattle.std.proofs.Common.{refl, ◌∙◌}
use Rattle.geo_mesh.proofs.ViewLemmas.{set_want-view}
use Rattle.geo_mesh.proofs.WholeLemmas.{whole-consumer_used}
use Rattle.geo_mesh.proofs.topo.Topo.set_want.Goals as goal

pub consumer_mut-cell-requires : goal.consumer_mut-cell-requires
consumer_mut-cell-requires g c = rw (← c.self.view_is) at c.requires

-- counts change neither graph nor rank, but whether the consumer is free to go
pub look_again-requires : goal.look_again-requires
look_again-requires g c =
    rw c.number-geom.ensures
    (whole-consumer_used c.self.inside.tables c.self.invariant c.args.cons c.consumer_mut-cell.result.now _
    c.consumer_mut-cell.ensures.rising c.consumer_mut-cell.ensures.cell
    (record { geom = refl; provider = refl }))

-- looking again changes a mark alone, which doesn't show; the cell's counts do
pub returns : goal.returns
returns g c =
    c.look_again.ensures.same
    ∙ (rw (← c.self.view_is)
    (set_want-view c.self.inside.tables c.args.cons c.consumer_mut-cell.result.now c.consumer_mut-cell.ensures.rising
    c.consumer_mut-cell.ensures.cell c.args.want))
