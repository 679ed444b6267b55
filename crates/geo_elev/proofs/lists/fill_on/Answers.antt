use Rattle.std.proofs.Common.{◌≡◌, ℕ, ◌+◌, ◌*◌, ◌^◌, ◌∷◌, List, false, ap, drop, sym, subst, ◌∙◌}
use Rattle.geo_elev.specs.declared.lists.Place.{Place}
use Rattle.geo_elev.specs.Front.{is_none_of, with_key}
use Rattle.geo_elev.specs.Lists.{Rises, all_waiting}
use Rattle.geo_elev.proofs.Kept.{moved_on}
use Rattle.geo_elev.proofs.Fronts.{some_with}
use Rattle.geo_elev.proofs.lists.fill_on.Goals as goal

-- the first that comes behind is no FLUSH, so it may be taken next too, and waits as before
pub loop-bio-preserved : goal.loop-bio-preserved
loop-bio-preserved c =
    let keys = c.loop-bio.front in
    let items = c.loop-bio.later.items in
    let e : ℕ × Place = (c.in-Some.bio, c.in-Some.place) in
    let split : items ≡ e ∷ drop 1 items = c.in-Some.ensures.0 in
    let more : c.add.new.self ≡ with_key (c.in-Some.place.first * 2 ^ 64 + c.in-Some.bio) keys =
    c.in_ok-add.ensures ∙ ap (λ (n : ℕ). with_key n keys) c.key.ensures in
    let rises : Rises 0 (all_waiting keys false (e ∷ drop 1 items)) =
    subst (λ (es : List (ℕ × Place)). Rises 0 (all_waiting keys false es)) split
    (subst (Rises 0) (sym c.loop-bio.invariant.same) c.requires.rises) in
    record {
      same = ap (λ (es : List (ℕ × Place)). all_waiting c.add.new.self false es) c.pop_front.ensures.rest
          ∙ ap (λ (ks : List ℕ). all_waiting ks false (drop 1 items)) more
          ∙ moved_on keys e (drop 1 items) rises c.in-Some.ensures.1
          ∙ ap (λ (es : List (ℕ × Place)). all_waiting keys false es) (sym split) ∙ c.loop-bio.invariant.same;
      some = ap is_none_of more ∙ some_with (c.in-Some.place.first * 2 ^ 64 + c.in-Some.bio) keys;
    }
