use Rattle.std.proofs.Common.{sym, subst, ◌∙◌}
use Rattle.geo_slots.proofs.RowLemmas.{without_absent}
use Rattle.geo_mesh.specs.Cells.{graph}
use Rattle.geo_mesh.specs.Names.{RemovesName}
use Rattle.geo_mesh.proofs.IndexLemmas.{attached_none, above_none}
use Rattle.geo_mesh.proofs.ViewLemmas.{without_provider-view}
use Rattle.geo_mesh.proofs.WholeParts.{whole-without_provider}
use Rattle.geo_mesh.proofs.topo.Topo.destroy_provider.Goals as goal

-- Here and below: no consumer is attached to it, so the index has none under it, of DEV or of others
pub remove_provider-requires-clause-none : goal.remove_provider-requires-clause-none
remove_provider-requires-clause-none g c =
    attached_none (graph c.self.inside.tables) c.self.inside.tables.edges.index c.self.invariant.tables.indexed
    c.number-in-Some-2.result (rw (← c.self.view_is, ← c.number-in-Some-2.ensures) at c.requires)

pub remove_provider-requires-clause-none_above : goal.remove_provider-requires-clause-none_above
remove_provider-requires-clause-none_above g c =
    above_none (graph c.self.inside.tables) c.self.inside.tables.edges.index c.self.invariant.tables.indexed
    c.number-in-Some-2.result (rw (← c.self.view_is, ← c.number-in-Some-2.ensures) at c.requires)

-- no consumer is attached to it, so no rank stood on it, and it is its geom's mark alone that may be wrong
pub look_again-requires : goal.look_again-requires
look_again-requires g c =
    rw (
      c.remove_provider.ensures,
      c.remove-in-Some-2.ensures,
      c.remove-in-Some-3.ensures,
      c.number-in-Some-2.ensures,
      c.number-in-Some-3.ensures,
      c.number-in-Some-4.ensures,
      c.number-in-Some-5.ensures,
      ← c.number.ensures,
      c.remove.ensures.removed,
    )
    (whole-without_provider c.self.inside.tables c.self.invariant c.number.result c.in-Some.cell
    c.remove-in-Some.new.self c.in-Some.ensures.rising
    (sym c.in-Some.ensures.value)
    (subst (λ k. RemovesName c.self.inside.tables.names c.remove-in-Some.new.self c.in-Some.cell.provider.name k
    c.in-Some.cell.provider.errored)
    (c.number-in-Some.ensures ∙ sym c.number.ensures) c.remove-in-Some.ensures.removed)
    (c.remove-in-Some.ensures.room _ c.self.invariant.tables.names_room)
    (rw (← c.self.view_is, ← c.number.ensures) at c.requires))

-- no provider had the number, so taking it away takes nothing
pub invariant_of-self-in_default : goal.invariant_of-self-in_default
invariant_of-self-in_default g c =
    rw (
      c.remove.ensures.removed,
      without_absent c.number.result c.self.inside.tables.edges.providers.rows (sym c.in_default.ensures.value),
    )
    c.self.invariant

-- the row is taken away wherever it shows, and looking again changes a mark alone, which doesn't show
pub returns-in-Some : goal.returns-in-Some
returns-in-Some g c =
    c.look_again.ensures.same
    ∙ (rw (← c.self.view_is, ← c.number.ensures, c.remove.ensures.removed)
    (without_provider-view c.self.inside.tables c.number.result))

pub returns-in_default : goal.returns-in_default
returns-in_default g c =
    rw (← c.self.view_is, ← c.number.ensures, c.remove.ensures.removed)
    (without_provider-view c.self.inside.tables c.number.result)
