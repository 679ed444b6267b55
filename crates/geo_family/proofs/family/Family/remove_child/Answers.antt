use Rattle.std.proofs.Common.{ap, None, ◌∙◌}
use Rattle.geo_slots.specs.Slots.{without}
use Rattle.geo_slots.proofs.RowLemmas.{IsRising-without}
use Rattle.geo_family.proofs.FamilyLemmas.{family-without_link}
use Rattle.geo_family.proofs.ViewLemmas.{value_at-with_none, children-without, without-with_value}
use Rattle.geo_family.proofs.family.Family.remove_child.Goals as goal

-- it was unlinked, so it has no parent, and neither a sibling nor an end names it
pub invariant_of-self : goal.invariant_of-self
invariant_of-self c =
    let children = ap (λ v. v.children) (c.self.view_is ∙ c.unlink.ensures) in
    rw c.remove.ensures.removed (record {
      family = family-without_link c.self.inside.links.rows c.self.inside.ends.rows c.self.invariant.family
          c.args.child
          (value_at-with_none c.args.child c.args.self.now.children c.self.inside.links.rows children);
      rising = IsRising-without c.args.child 1 c.self.inside.links.rows c.self.inside.links.next
          c.self.invariant.rising;
    })

-- that the child was unlinked first doesn't show once it is gone
pub returns : goal.returns
returns c =
    let view = c.self.view_is ∙ c.unlink.ensures in
    rw (c.remove.ensures.removed, children-without c.args.child c.self.inside.links.rows) (λ i. record {
      parents = (view i).parents;
      children = (ap (λ v. without v.children c.args.child) view
          ∙ without-with_value c.args.child None c.args.self.now.children) i;
      next_parent = (view i).next_parent;
      next_child = (view i).next_child;
      parent_room = (view i).parent_room;
      child_room = (view i).child_room;
    })
