use Rattle.std.proofs.Common.{◌≡◌, ◌-◌, sym, subst, ◌∙◌}
use Rattle.geo_slots.specs.Slots.{without}
use Rattle.geo_slots.proofs.RowLemmas.{without_absent}
use Rattle.geo_mesh.specs.Cells.{graph}
use Rattle.geo_mesh.proofs.IndexLemmas.{offered_none, owned_none}
use Rattle.geo_mesh.proofs.ViewLemmas.{without_geom-view}
use Rattle.geo_mesh.proofs.WholeParts.{whole-without_geom}
use Rattle.geo_mesh.proofs.topo.Topo.destroy_geom.Goals as goal

-- Here and below: the index is that of the graph, where the geom has neither provider nor consumer
pub remove_geom-requires-clause-no_provider : goal.remove_geom-requires-clause-no_provider
remove_geom-requires-clause-no_provider g c =
    offered_none (graph c.self.inside.tables) c.self.inside.tables.edges.index c.self.invariant.tables.indexed
    c.number-in-Some.result
    (rw (← c.self.view_is, ← c.number-in-Some.ensures) at c.requires.no_provider)

pub remove_geom-requires-clause-no_consumer : goal.remove_geom-requires-clause-no_consumer
remove_geom-requires-clause-no_consumer g c =
    owned_none (graph c.self.inside.tables) c.self.inside.tables.edges.index c.self.invariant.tables.indexed
    c.number-in-Some.result
    (rw (← c.self.view_is, ← c.number-in-Some.ensures) at c.requires.no_consumer)

-- no part names the geom and it isn't DEV or TASTE, so without it all that is left stands as it stood
pub invariant_of-self : goal.invariant_of-self
invariant_of-self g c =
    rw (
      c.remove_geom.ensures,
      c.remove-in-Some.ensures,
      c.number-in-Some.ensures,
      c.number-in-Some-2.ensures,
      ← c.number.ensures,
      c.remove.ensures.removed,
    )
    (whole-without_geom c.self.inside.tables c.self.invariant c.number.result c.in-Some.cell c.remove-in-Some-2.new.self
    c.in-Some.ensures.rising (sym c.in-Some.ensures.value)
    (rw (← c.number.ensures) at c.requires.not_dev) (rw (← c.number.ensures) at c.requires.not_taste)
    (rw (← c.self.view_is, ← c.number.ensures) at c.requires.no_provider)
    (rw (← c.self.view_is, ← c.number.ensures) at c.requires.no_consumer)
    (subst (λ k. c.remove-in-Some-2.new.self ≡ record c.self.inside.tables.notes.named {
      rows = without c.self.inside.tables.notes.named.rows k;
      room = c.remove-in-Some-2.new.self.room;
    }) (c.number-in-Some-3.ensures ∙ sym c.number.ensures) c.remove-in-Some-2.ensures.removed)
    c.remove-in-Some-2.ensures.room)

-- no geom had the number, so taking it away takes nothing
pub invariant_of-self-in_default : goal.invariant_of-self-in_default
invariant_of-self-in_default g c =
    rw (
      c.remove.ensures.removed,
      without_absent c.number.result c.self.inside.tables.geoms.rows (sym c.in_default.ensures.value),
    )
    c.self.invariant

-- Whether there was a geom or not, its row and its scratch are gone; the count of geoms shows in the room alone
pub returns-in-Some-clause-removed : goal.returns-in-Some-clause-removed
returns-in-Some-clause-removed g c =
    rw (← c.self.view_is, ← c.number.ensures, c.remove.ensures.removed)
    (without_geom-view c.self.inside.tables c.number.result (c.self.inside.tables.live - 1))

pub returns-in_default-clause-removed : goal.returns-in_default-clause-removed
returns-in_default-clause-removed g c =
    rw (← c.self.view_is, ← c.number.ensures, c.remove.ensures.removed)
    (without_geom-view c.self.inside.tables c.number.result c.self.inside.tables.live)
