-- Passes that go on, and what they have seen.
use Rattle.std.specs.Prelude.{◌≡◌, List, [], ◌++◌}
use Rattle.std.proofs.Common.{append-nil, refl, sym, ◌∙◌, ap}
use Rattle.std.proofs.lemmas.List.{append_assoc}
use mathlib.Core.List.{IsPrefix}
use Rattle.geo_model.specs.declared.step.Entry.{Entry}
use Rattle.geo_lock.specs.Pass.{IsSamePass}
use Rattle.geo_lock.specs.Yard.{IsPassOf, YardView}
use Rattle.geo_lock.proofs.Prefixes.{prefix_self, prefix_trans}
use Rattle.geo_core.specs.declared.logged.MeshStart.{MeshStart}
use Rattle.geo_core.specs.Mesh.{IsHistory}
use Rattle.geo_core.specs.Logged.{mesh_of}
use Rattle.geo_jobs.specs.Passes.{Goes, IsGoodPass, MeshPass}

-- a pass that adds nothing
pub goes_none : (p q : MeshPass) → IsSamePass p q → IsPrefix p.seen q.seen → q.own ≡ p.own → Goes p q []
goes_none p q same longer own = record { same = same; longer = longer; own = own ∙ sym (append-nil p.own) }

-- it stays itself
pub goes_self : (p : MeshPass) → Goes p p []
goes_self p =
    goes_none p p (record { yard = refl; start = refl; number = refl; made = refl }) (prefix_self p.seen) refl

-- one part after another
pub goes_join : (p q r : MeshPass) (xs ys : List Entry) → Goes p q xs → Goes q r ys → Goes p r (xs ++ ys)
goes_join p q r xs ys one two = record {
  same = record {
    yard = two.same.yard ∙ one.same.yard;
    start = two.same.start ∙ one.same.start;
    number = two.same.number ∙ one.same.number;
    made = two.same.made ∙ one.same.made;
  };
  longer = prefix_trans p.seen q.seen r.seen one.longer two.longer;
  own = two.own ∙ (ap (λ (l : List Entry). l ++ ys) one.own ∙ append_assoc p.own xs ys);
}

-- a pass stays one of its yard
pub still_of : (y : YardView MeshStart) (p q : MeshPass) (added : List Entry) → IsPassOf y p → Goes p q added
    → IsPassOf y q
still_of y p q added of goes =
    record { yard = goes.same.yard ∙ of.yard; start = goes.same.start ∙ of.start }

-- what a pass of a yard has seen is a history of its mesh
pub history_of : (y : YardView MeshStart) (p : MeshPass) → IsPassOf y p → IsGoodPass p
    → IsHistory (mesh_of y.start p.seen)
history_of y p of good = good.law y.start of.start
