use Rattle.std.proofs.Common.{ℕ, Option, Some, refl, ap, ◌∙◌}
use Rattle.geo_slots.specs.Slots.{value_at}
use Rattle.geo_family.specs.declared.family.Link.{Link}
use Rattle.geo_family.specs.Family.{is_parent}
use Rattle.geo_family.proofs.ViewLemmas.{free_child, parent_stands, children-relinked, numbers-with_first, numbers-with_last, rising-relinked}
use Rattle.geo_family.proofs.FamilyLemmas.{family-link}
use Rattle.geo_family.proofs.family.Family.link.Goals as goal

-- the link of a child of this parent between these neighbours
abbrev below : ℕ → Option ℕ → Option ℕ → Link
below at less more = record { parent = Some at; before = less; after = more }

pub last_below-before-requires-clause-apart : goal.last_below-before-requires-clause-apart
last_below-before-requires-clause-apart c =
    (free_child c.args.child c.self.inside.links.rows (ap (λ v. value_at v.children c.args.child) c.self.view_is
    ∙ c.requires.free)).0

-- it comes between its greatest sibling below and the one behind that; both, or the parent's ends, now name it
pub invariant_of-self : goal.invariant_of-self
invariant_of-self c =
    let free = free_child c.args.child c.self.inside.links.rows
    (ap (λ v. value_at v.children c.args.child) c.self.view_is ∙ c.requires.free) in
    let stands =
    parent_stands c.args.parent c.self.inside.ends.rows
    (ap (λ v. is_parent v.parents c.args.parent) c.self.view_is ∙ c.requires.parent) in
    rw (c.set_link.ensures, c.set_last.ensures, c.set_before.ensures, c.set_first.ensures, c.set_after.ensures)
    (record {
      family = family-link c.self.inside.links.rows c.self.inside.ends.rows c.self.invariant.family c.args.child
          c.args.parent stands free.0 free.1 c.last_below-before.result c.last_below-before.ensures
          c.behind-after.result c.behind-after.ensures;
      rising = rising-relinked c.args.child (below c.args.parent c.last_below-before.result c.behind-after.result)
          c.last_below-before.result c.behind-after.result (Some c.args.child) (Some c.args.child)
          c.self.inside.links.next c.self.inside.links.rows c.self.invariant.rising;
    })

-- neighbours and ends don't show, so what shows is the child's new parent alone
pub returns : goal.returns
returns c =
    rw (
      ← c.self.view_is,
      c.set_link.ensures,
      c.set_last.ensures,
      c.set_before.ensures,
      c.set_first.ensures,
      c.set_after.ensures,
    )
    (rw (
      children-relinked c.args.child (below c.args.parent c.last_below-before.result c.behind-after.result)
          c.last_below-before.result c.behind-after.result (Some c.args.child) (Some c.args.child)
          c.self.inside.links.rows,
      numbers-with_last c.behind-after.result c.args.parent (Some c.args.child) _,
      numbers-with_first c.last_below-before.result c.args.parent (Some c.args.child) c.self.inside.ends.rows,
    ) refl)
