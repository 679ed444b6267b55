use Rattle.std.proofs.Common.{None, sym, refl, ◌∙◌}
use Rattle.geo_family.proofs.ViewLemmas.{children-relinked, children-kept, numbers-with_first, numbers-with_last, rising-relinked}
use Rattle.geo_family.proofs.FamilyLemmas.{family-unlink, parent_there}
use Rattle.geo_family.proofs.family.Family.unlink.Goals as goal

-- the child has no parent, or isn't there at all, so it is off its parent already
pub returns-in_default : goal.returns-in_default
returns-in_default c =
    rw (
      ← c.self.view_is,
      children-kept c.args.child 1 c.self.inside.links.next c.self.inside.links.rows
          c.parent_at.ensures.rising (sym c.parent_at.ensures.parent ∙ c.in_default.is),
    ) refl

-- the siblings on both sides become neighbours, and where there is none on a side that end moves
pub invariant_of-self : goal.invariant_of-self
invariant_of-self c =
    let under = sym c.parent_at.ensures.parent ∙ c.in-Some.is in
    let stands =
    parent_there c.self.inside.links.rows c.self.inside.ends.rows c.self.invariant.family c.args.child
    c.in-Some.parent under in
    rw (c.set_link.ensures, c.set_last.ensures, c.set_before.ensures, c.set_first.ensures, c.set_after.ensures)
    (record {
      family = family-unlink c.self.inside.links.rows c.self.inside.ends.rows c.self.invariant.family c.args.child
          c.in-Some.parent stands under c.before_at-before.result c.after_at-after.result
          c.before_at-before.ensures c.after_at-after.ensures;
      rising = rising-relinked c.args.child (record { parent = None; before = None; after = None })
          c.before_at-before.result c.after_at-after.result c.before_at-before.result c.after_at-after.result
          c.self.inside.links.next c.self.inside.links.rows c.self.invariant.rising;
    })

-- neighbours and ends don't show, so what shows is that the child has no parent
pub returns : goal.returns
returns c =
    rw (
      ← c.self.view_is,
      c.set_link.ensures,
      c.set_last.ensures,
      c.set_before.ensures,
      c.set_first.ensures,
      c.set_after.ensures,
    )
    (rw (
      children-relinked c.args.child (record { parent = None; before = None; after = None })
          c.before_at-before.result c.after_at-after.result c.after_at-after.result c.before_at-before.result
          c.self.inside.links.rows,
      numbers-with_last c.after_at-after.result c.in-Some.parent c.before_at-before.result _,
      numbers-with_first c.before_at-before.result c.in-Some.parent c.after_at-after.result c.self.inside.ends.rows,
    ) refl)
