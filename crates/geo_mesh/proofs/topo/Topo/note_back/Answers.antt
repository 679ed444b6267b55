use Rattle.std.proofs.Common.{◌-◌, refl, ◌∙◌}
use Rattle.geo_mesh.specs.Cells.{active_of}
use Rattle.geo_mesh.proofs.RowLemmas.{value_at-rows_with}
use Rattle.geo_mesh.proofs.ViewLemmas.{active-view}
use Rattle.geo_mesh.proofs.WholeLemmas.{whole-consumer_used}
use Rattle.geo_mesh.proofs.topo.Topo.note_back.Goals as goal

pub consumer_mut-cell-requires : goal.consumer_mut-cell-requires
consumer_mut-cell-requires g c = rw (← c.self.view_is) at c.requires.lives

-- a request less changes neither graph nor rank, but the consumer may be free to go now
pub look_again-requires : goal.look_again-requires
look_again-requires g c =
    rw c.number-geom.ensures
    (whole-consumer_used c.self.inside.tables c.self.invariant c.args.cons c.consumer_mut-cell.result.now _
    c.consumer_mut-cell.ensures.rising c.consumer_mut-cell.ensures.cell
    (record { geom = refl; provider = refl }))

-- looking again changes a mark alone, which doesn't show; the cell's count does
pub returns : goal.returns
returns g c =
    c.look_again.ensures.same
    ∙ (rw (← c.self.view_is)
    (active-view c.self.inside.tables c.args.cons c.consumer_mut-cell.result.now c.consumer_mut-cell.ensures.rising
    c.consumer_mut-cell.ensures.cell (λ m. m - 1)))

-- the count in the cell is the one that shows, of which the caller says that it isn't 0
pub overflow_sub-cell : goal.overflow_sub-cell
overflow_sub-cell g c =
    rw (
      ← c.self.view_is,
      value_at-rows_with active_of c.args.cons c.self.inside.tables.edges.consumers.rows,
      c.consumer_mut-cell.ensures.cell,
    ) at c.requires.some_out
