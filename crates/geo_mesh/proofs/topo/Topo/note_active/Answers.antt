use Rattle.std.proofs.Common.{◌+◌, ◌<◌, ◌^◌, rules, refl, ◌∙◌}
use Rattle.geo_mesh.specs.Cells.{active_of}
use Rattle.geo_mesh.proofs.RowLemmas.{value_at-rows_with}
use Rattle.geo_mesh.proofs.ViewLemmas.{active-view}
use Rattle.geo_mesh.proofs.WholeLemmas.{whole-consumer_used}
use Rattle.geo_mesh.proofs.topo.Topo.note_active.Goals as goal

pub consumer_mut-cell-requires : goal.consumer_mut-cell-requires
consumer_mut-cell-requires g c = rw (← c.self.view_is) at c.requires.lives

-- a request more changes neither graph nor rank, but the consumer may not be free to go any longer
pub look_again-requires : goal.look_again-requires
look_again-requires g c =
    rw c.number-geom.ensures
    (whole-consumer_used c.self.inside.tables c.self.invariant c.args.cons c.consumer_mut-cell.result.now _
    c.consumer_mut-cell.ensures.rising c.consumer_mut-cell.ensures.cell
    (record { geom = refl; provider = refl }))

-- looking again changes a mark alone, which doesn't show; the cell's count does
pub returns : goal.returns
returns g c =
    c.look_again.ensures.same
    ∙ (rw (← c.self.view_is)
    (active-view c.self.inside.tables c.args.cons c.consumer_mut-cell.result.now c.consumer_mut-cell.ensures.rising
    c.consumer_mut-cell.ensures.cell (λ m. m + 1)))

-- the count in the cell is the one that shows, which the caller keeps small
pub overflow_add-cell : goal.overflow_add-cell
overflow_add-cell g c =
    let few : c.consumer_mut-cell.result.now.consumer.active < 2 ^ 63 =
    rw (
      ← c.self.view_is,
      value_at-rows_with active_of c.args.cons c.self.inside.tables.edges.consumers.rows,
      c.consumer_mut-cell.ensures.cell,
    ) at c.requires.few in
    search rules
