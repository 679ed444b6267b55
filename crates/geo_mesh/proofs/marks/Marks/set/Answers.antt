use Rattle.std.specs.Prelude.{Some, None}
use Rattle.std.specs.Option.{is_some}
use Rattle.std.proofs.Common.{refl}
use Rattle.geo_mesh.proofs.RowLemmas.{rows_with-with_value, seen-some}
use Rattle.geo_slots.proofs.RowLemmas.{value_at-set, with_value-twice}
use Rattle.geo_mesh.proofs.MarkLemmas.{under-set}
use Rattle.geo_mesh.proofs.marks.Marks.set.Goals as goal

-- the number was unlinked just before, so it has no parent
pub link-requires-clause-free : goal.link-requires-clause-free
link-requires-clause-free c =
    rw c.unlink.ensures
    (value_at-set c.args.number None c.self.inside.family.children
    (seen-some is_some c.args.number c.self.inside.family.children (rw (← c.self.view_is) at c.requires)))

-- the number is linked to 1, the one parent that a number may have
pub invariant_of-self : goal.invariant_of-self
invariant_of-self c =
    rw (c.link.ensures, c.unlink.ensures, with_value-twice c.args.number None (Some 1) c.self.inside.family.children)
    (record {
      stands = c.self.invariant.stands;
      under = under-set c.args.number (Some 1) c.self.inside.family.children refl c.self.invariant.under;
    })

-- the number is unlinked: without a parent it has none but 1
pub invariant_of-self-else-marked : goal.invariant_of-self-else-marked
invariant_of-self-else-marked c =
    rw c.unlink.ensures
    (record {
      stands = c.self.invariant.stands;
      under =
          under-set c.args.number None c.self.inside.family.children tt c.self.invariant.under;
    })

-- Either way: a number is marked just where it has a parent, and what was done last counts
pub returns-then-marked : goal.returns-then-marked
returns-then-marked c =
    rw (
      ← c.self.view_is,
      c.link.ensures,
      c.unlink.ensures,
      with_value-twice c.args.number None (Some 1) c.self.inside.family.children,
      rows_with-with_value is_some c.args.number (Some 1) c.self.inside.family.children,
      c.if-marked.true,
    ) refl

pub returns-else-marked : goal.returns-else-marked
returns-else-marked c =
    rw (
      ← c.self.view_is,
      c.unlink.ensures,
      rows_with-with_value is_some c.args.number None c.self.inside.family.children,
      c.if-marked.false,
    ) refl
