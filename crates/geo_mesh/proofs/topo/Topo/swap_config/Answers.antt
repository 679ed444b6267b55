use Rattle.std.proofs.Common.{refl}
use Rattle.geo_mesh.proofs.ViewLemmas.{geom-view, geom_at-view}
use Rattle.geo_mesh.proofs.WholeLemmas.{whole-geom_cell}
use Rattle.geo_mesh.proofs.topo.Topo.swap_config.Goals as goal

pub geom_mut-cell-requires : goal.geom_mut-cell-requires
geom_mut-cell-requires g c = rw (← c.self.view_is) at c.requires

-- what stood in the cell is the configuration that the graph shows
pub returns-clause-old : goal.returns-clause-old
returns-clause-old g c =
    rw (
      ← c.self.view_is,
      geom_at-view c.self.inside.tables.geoms c.self.inside.tables.edges c.args.geom,
      c.geom_mut-cell.ensures.cell,
      c.replace.ensures.value,
    ) refl

pub returns-clause-swapped : goal.returns-clause-swapped
returns-clause-swapped g c =
    rw (← c.self.view_is, c.replace.ensures.after)
    (geom-view c.self.inside.tables c.args.geom c.geom_mut-cell.result.now c.geom_mut-cell.ensures.rising
    c.geom_mut-cell.ensures.cell (λ x. record x { config = c.args.config }) _ refl refl)

-- the configuration is read by nothing that a mesh keeps
pub invariant_of-self : goal.invariant_of-self
invariant_of-self g c =
    rw c.replace.ensures.after
    (whole-geom_cell c.self.inside.tables c.self.invariant c.args.geom c.geom_mut-cell.result.now _
    c.geom_mut-cell.ensures.rising c.geom_mut-cell.ensures.cell
    (record { kind = refl; name = refl; rank = refl }) refl)
