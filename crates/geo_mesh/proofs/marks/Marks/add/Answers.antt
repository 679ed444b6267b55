use Rattle.std.proofs.Common.{refl}
use Rattle.geo_mesh.proofs.MarkLemmas.{under-push, marks-push}
use Rattle.geo_mesh.proofs.marks.Marks.add.Goals as goal

-- the new number has no parent, so still none has another than 1
pub invariant_of-self : goal.invariant_of-self
invariant_of-self c =
    rw c.add_child.ensures.added
    (record {
      stands = c.self.invariant.stands;
      under =
          under-push c.self.inside.family.children c.self.inside.family.next_child c.self.invariant.under;
    })

-- a child without a parent is a number without a mark
pub returns : goal.returns
returns c = rw (
  ← c.self.view_is,
  c.add_child.ensures.added,
  marks-push c.self.inside.family.children c.self.inside.family.next_child,
) refl
