use Rattle.std.proofs.Common.{refl, ap, ◌∙◌}
use Rattle.geo_family.specs.Family.{has_child}
use Rattle.geo_family.proofs.FamilyLemmas.{family-without_ends}
use Rattle.geo_family.proofs.ViewLemmas.{childless, numbers-without}
use Rattle.geo_family.proofs.family.Family.remove_parent.Goals as goal

-- the parent has no child, so the ends that go with it name none
pub invariant_of-self : goal.invariant_of-self
invariant_of-self c =
    rw c.remove.ensures.removed (record {
      family = family-without_ends c.self.inside.links.rows c.self.inside.ends.rows c.self.invariant.family
          c.args.parent
          (childless c.args.parent c.self.inside.links.rows
          (ap (λ v. has_child v.children c.args.parent) c.self.view_is ∙ c.requires));
      rising = c.self.invariant.rising;
    })

pub returns : goal.returns
returns c = rw (← c.self.view_is, c.remove.ensures.removed, numbers-without c.args.parent c.self.inside.ends.rows) refl
