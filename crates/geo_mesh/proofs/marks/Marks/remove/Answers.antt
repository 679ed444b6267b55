use Rattle.std.proofs.Common.{refl}
use Rattle.geo_mesh.proofs.MarkLemmas.{under-without, marks-without}
use Rattle.geo_mesh.proofs.marks.Marks.remove.Goals as goal

-- the numbers that are left have the parents that they had
pub invariant_of-self : goal.invariant_of-self
invariant_of-self c =
    rw c.remove_child.ensures
    (record {
      stands = c.self.invariant.stands;
      under =
          under-without c.args.number c.self.inside.family.children c.self.invariant.under;
    })

pub returns : goal.returns
returns c = rw (
  ← c.self.view_is,
  c.remove_child.ensures,
  marks-without c.args.number c.self.inside.family.children,
) refl
