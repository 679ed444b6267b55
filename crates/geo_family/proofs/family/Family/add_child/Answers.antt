use Rattle.std.proofs.Common.{refl, None, subst}
use Rattle.geo_slots.specs.Slots.{IsRising}
use Rattle.geo_slots.proofs.RowLemmas.{IsRising-push}
use Rattle.geo_family.specs.declared.family.Link.{Link}
use Rattle.geo_family.proofs.ViewLemmas.{children_rise}
use Rattle.geo_family.proofs.FamilyLemmas.{family-push_links}
use Rattle.geo_family.proofs.family.Family.add_child.Goals as goal

-- the new child has no parent, so it is nobody's neighbour and no parent's end
pub invariant_of-self : goal.invariant_of-self
invariant_of-self c =
    let link : Link = record { parent = None; before = None; after = None } in
    rw c.insert.ensures.inserted (record {
      family = family-push_links c.self.inside.links.rows c.self.inside.ends.rows c.self.invariant.family
          c.self.inside.links.next link refl refl refl;
      rising = IsRising-push 1 c.self.inside.links.rows c.self.inside.links.next link c.self.invariant.rising;
    })

-- the children that show have the numbers of the links, which rise
pub returns-clause-rising : goal.returns-clause-rising
returns-clause-rising c =
    subst (λ v. IsRising 1 v.children v.next_child) c.self.view_is
    (children_rise 1 c.self.inside.links.next c.self.inside.links.rows c.insert.ensures.rising)
