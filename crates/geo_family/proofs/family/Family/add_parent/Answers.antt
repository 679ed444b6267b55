use Rattle.std.proofs.Common.{refl, None}
use Rattle.geo_family.proofs.FamilyLemmas.{family-push_ends}
use Rattle.geo_family.proofs.family.Family.add_parent.Goals as goal

-- the new parent has neither a first nor a last child, as a number that isn't a parent
pub invariant_of-self : goal.invariant_of-self
invariant_of-self c =
    rw c.insert.ensures.inserted (record {
      family = family-push_ends c.self.inside.links.rows c.self.inside.ends.rows c.self.invariant.family
          c.self.inside.ends.next (record { first = None; last = None }) refl refl;
      rising = c.self.invariant.rising;
    })
