use Rattle.std.proofs.Common.{refl}
use Rattle.geo_names.proofs.Texts.{under-without, rows-without}
use Rattle.geo_names.proofs.names.Names.remove.Goals as goal

-- ids and names are as before, and the numbers that are left stand where they stood
pub close-requires : goal.close-requires
close-requires c =
    rw c.remove_child.ensures (record {
      parents = c.self.invariant.parents;
      next = c.self.invariant.next;
      named = c.self.invariant.named;
      back = c.self.invariant.back;
      under = under-without c.self.inside.inside.texts.rows c.args.number c.self.inside.inside.alike.children
          c.self.invariant.under;
    })

-- the number goes with its row; closing the name changes no row
pub returns-clause-removed : goal.returns-clause-removed
returns-clause-removed c =
    rw (
      ← c.self.view_is,
      c.close.ensures.rows,
      c.close.ensures.next,
      c.remove_child.ensures,
      rows-without c.self.inside.inside.texts.rows c.args.number c.self.inside.inside.alike.children,
    ) refl
