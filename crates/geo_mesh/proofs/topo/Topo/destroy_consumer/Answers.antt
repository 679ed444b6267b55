use Rattle.std.proofs.Common.{sym, ◌∙◌}
use Rattle.geo_slots.proofs.RowLemmas.{without_absent}
use Rattle.geo_mesh.proofs.ViewLemmas.{without_consumer-view}
use Rattle.geo_mesh.proofs.WholeParts.{whole-without_consumer}
use Rattle.geo_mesh.proofs.topo.Topo.destroy_consumer.Goals as goal

-- it was attached to nothing, so no rank stood on it; but what of its geom can go may be another now
pub look_again-requires : goal.look_again-requires
look_again-requires g c =
    rw (
      c.remove_consumer.ensures,
      c.number-in-Some.ensures,
      c.number-in-Some-2.ensures,
      ← c.number.ensures,
      c.remove.ensures.removed,
    )
    (whole-without_consumer c.self.inside.tables c.self.invariant c.number.result c.in-Some.cell
    c.in-Some.ensures.rising (sym c.in-Some.ensures.value)
    (rw (← c.self.view_is, ← c.number.ensures) at c.requires))

-- no consumer had the number, so taking it away takes nothing
pub invariant_of-self-in_default : goal.invariant_of-self-in_default
invariant_of-self-in_default g c =
    rw (
      c.remove.ensures.removed,
      without_absent c.number.result c.self.inside.tables.edges.consumers.rows (sym c.in_default.ensures.value),
    )
    c.self.invariant

-- the row is taken away wherever it shows, and looking again changes a mark alone, which doesn't show
pub returns-in-Some : goal.returns-in-Some
returns-in-Some g c =
    c.look_again.ensures.same
    ∙ (rw (← c.self.view_is, ← c.number.ensures, c.remove.ensures.removed)
    (without_consumer-view c.self.inside.tables c.number.result))

pub returns-in_default : goal.returns-in_default
returns-in_default g c =
    rw (← c.self.view_is, ← c.number.ensures, c.remove.ensures.removed)
    (without_consumer-view c.self.inside.tables c.number.result)
