use Rattle.std.proofs.Common.{refl, rules}
use Rattle.geo_mesh.specs.Cells.{risen_of, fallen_of}
use Rattle.geo_mesh.proofs.NoteLemmas.{notes-noted}
use Rattle.geo_mesh.proofs.RowLemmas.{value_at-rows_with}
use Rattle.geo_mesh.proofs.ViewLemmas.{set_noted-view, same_notes-view}
use Rattle.geo_mesh.proofs.WholeLemmas.{whole-provider_noted, whole-provider_cell}
use Rattle.geo_mesh.proofs.topo.Topo.set_noted.Goals as goal

pub provider_mut-cell-requires : goal.provider_mut-cell-requires
provider_mut-cell-requires g c = rw (← c.self.view_is) at c.requires

-- Here and below: the marks have the providers' numbers, and this provider lives
pub set-requires : goal.set-requires
set-requires g c =
    rw (
      c.number.ensures,
      c.self.invariant.tables.notes.risen,
      value_at-rows_with risen_of c.args.prov c.self.inside.tables.edges.providers.rows,
      c.provider_mut-cell.ensures.cell,
    ) refl

pub set-requires-2 : goal.set-requires-2
set-requires-2 g c =
    rw (
      c.number-2.ensures,
      c.self.invariant.tables.notes.fallen,
      value_at-rows_with fallen_of c.args.prov c.self.inside.tables.edges.providers.rows,
      c.provider_mut-cell.ensures.cell,
    ) refl

pub returns : goal.returns
returns g c =
    rw (← c.self.view_is)
    (set_noted-view c.self.inside.tables c.args.prov c.provider_mut-cell.result.now c.provider_mut-cell.ensures.rising
    c.provider_mut-cell.ensures.cell c.args.risen c.args.fallen)

-- a provider that is noted so already is left as it is
pub returns-then-cell-fallen : goal.returns-then-cell-fallen
returns-then-cell-fallen g c =
    rw (← c.self.view_is)
    (same_notes-view c.self.inside.tables c.args.prov c.provider_mut-cell.result.now c.provider_mut-cell.ensures.rising
    c.provider_mut-cell.ensures.cell c.args.risen c.args.fallen (search rules) (search rules))

pub invariant_of-self : goal.invariant_of-self
invariant_of-self g c =
    whole-provider_cell c.self.inside.tables c.self.invariant c.args.prov c.provider_mut-cell.result.now _
    c.provider_mut-cell.ensures.rising c.provider_mut-cell.ensures.cell
    (record { geom = refl; name = refl; errored = refl; sizes = λ fits. fits }) refl refl

-- the marks of this provider are set to what its cell says, and what else is read of the cell stays
pub invariant_of-self-2 : goal.invariant_of-self-2
invariant_of-self-2 g c =
    rw (c.set.ensures, c.set-2.ensures, c.number.ensures, c.number-2.ensures)
    (whole-provider_noted c.self.inside.tables c.self.invariant c.args.prov c.provider_mut-cell.result.now _ _
    c.provider_mut-cell.ensures.rising c.provider_mut-cell.ensures.cell
    (record { geom = refl; name = refl; errored = refl; sizes = λ fits. fits })
    (notes-noted c.self.inside.tables.notes c.self.inside.tables.geoms c.self.inside.tables.edges.providers
    c.args.prov _ c.self.invariant.tables.notes) refl)
