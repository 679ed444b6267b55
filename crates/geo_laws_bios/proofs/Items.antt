-- Lists of numbered items of which one is changed: what then holds of all, of pairs, and of tests over all.
use Rattle.std.specs.Prelude.{◌≡◌, ℕ, ◌<◌, ◌==◌, Bool, true, false, List, [], ◌∷◌, length, map, filter, find, count_by, not, Some, All, AllPairs, if◌then◌else◌}
use Rattle.std.specs.List.{AllByRecursion, list_all}
use Rattle.std.proofs.Common.{refl, sym, ◌∙◌, ap, subst, arith, get_or}
use Rattle.std.proofs.lemmas.List.{get_or-map, length-map}
use Rattle.std.proofs.lemmas.List.Elements.{All-map, All-weaker, All-from_recursion}
use Rattle.std.proofs.lemmas.List.Sums.{length-filter}
use Rattle.geo_model.specs.Words.{change_where}
use Rattle.geo_model.specs.Graph.{AreNumbers}
use Rattle.geo_laws_graph.proofs.Lists.{filter-changed, length-changed}
use Rattle.geo_laws_graph.proofs.Numbered.{unique}
use Rattle.geo_laws_graph.proofs.Spared.{IsSpared, filter-spared}
pub use Rattle.geo_laws_counts.proofs.Levels.{of_each as each_of}
pub use Rattle.geo_model.proofs.AllLists.{two_facts as both_by_recursion}

-- two facts of each item
pub all_both : {X : Type 0} (P Q : X → Type 0) (xs : List X) → All P xs → All Q xs → All (λ x. P x × Q x) xs
all_both P Q xs ps qs = λ k d short. (ps k d short, qs k d short)

-- pairs of a list are those of the list from which it is mapped
pub pairs_map : {X : Type 0} (R : X → X → Type 0) (f : X → X) (xs : List X) → AllPairs (λ a b. R (f a) (f b)) xs
    → AllPairs R (map f xs)
pairs_map {X} R f xs pairs = λ i j d less short.
    let inside : j < length xs = omega (arith, length-map xs f) in
    let first : i < length xs = omega arith in
    let at_i : get_or (map f xs) i d ≡ f (get_or xs i d) = get_or-map f xs i d d first in
    let at_j : get_or (map f xs) j d ≡ f (get_or xs j d) = get_or-map f xs j d d inside in
    subst (λ (a : X). R a (get_or (map f xs) j d)) (sym at_i)
    (subst (λ (b : X). R (f (get_or xs i d)) b) (sym at_j) (pairs i j d less inside))

-- where none passes, none is kept
pub none_kept : {X : Type 0} (test : X → Bool) (xs : List X) → AllByRecursion (λ (x : X). test x ≡ false) xs
    → filter test xs ≡ []
none_kept test [] none = refl
none_kept test (x ∷ xs) none = let out : test x ≡ false = none.0 in rw out (none_kept test xs none.1)

-- as many pass where the change of some isn't seen
pub count-changed : {X : Type 0} (hit : X → Bool) (change : X → X) (test : X → Bool)
    → ((x : X) → hit x ≡ true → test (change x) ≡ test x) → (xs : List X)
    → count_by test (change_where hit change xs) ≡ count_by test xs
count-changed {X} hit change test same xs =
    sym (length-filter test (change_where hit change xs))
    ∙ ap (λ (ys : List X). length ys) (filter-changed hit change test same xs)
    ∙ length-changed hit change (filter test xs)
    ∙ length-filter test xs

-- and where those that go don't pass
pub count-spared : {X : Type 0} (gone test : X → Bool) (xs : List X) → AllByRecursion (IsSpared gone test) xs
    → count_by test (filter (λ x. not (gone x)) xs) ≡ count_by test xs
count-spared {X} gone test xs spared =
    sym (length-filter test (filter (λ x. not (gone x)) xs))
    ∙ ap (λ (ys : List X). length ys) (filter-spared gone test xs spared)
    ∙ length-filter test xs

module _ {X : Type 0} (hit test : X → Bool) (change : X → X)
    (out : (x : X) → hit x ≡ true → test (change x) ≡ false) where
  -- one item more of the test over all
  fewer_step : (x : X) (xs : List X) (a b : Bool) → hit x ≡ a → test x ≡ b → list_all test (x ∷ xs) ≡ false
      → (list_all test xs ≡ false → list_all test (change_where hit change xs) ≡ false)
      → list_all test (change_where hit change (x ∷ xs)) ≡ false
  fewer_step x xs true b e f none rest = let gone : test (change x) ≡ false = out x e in rw (e, gone) refl
  fewer_step x xs false true e f none rest = rw (e, f) (rest (rw f at none))
  fewer_step x xs false false e f none rest = rw (e, f) refl

  -- not all pass, where those that are changed don't
  pub all-fewer : (xs : List X) → list_all test xs ≡ false → list_all test (change_where hit change xs) ≡ false
  all-fewer [] none = none
  all-fewer (x ∷ xs) none = fewer_step x xs (hit x) (test x) refl refl none (all-fewer xs)

module _ {X : Type 0} (number : X → ℕ) (change : X → X) (next : ℕ) (xs : List X) (x : X)
    (are : AreNumbers (map number xs) next) (found : find (λ (y : X). number y == number x) xs ≡ Some x) where
  -- an item after the change of the one that is found
  abbrev pub with_change : X → X
  with_change y = if number y == number x then change y else y

  -- the items after it
  abbrev pub changed_items : List X
  changed_items = change_where (λ y. number y == number x) change xs

  -- only that one has its number
  pub only_one : All (λ (y : X). (number y == number x) ≡ true → y ≡ x) xs
  only_one = All-from_recursion (λ (y : X). (number y == number x) ≡ true → y ≡ x) xs
      (unique number next (number x) xs x are found)

  -- a fact of an item, whether it is the one or not
  one_changed : (P Q : X → Type 0) → (Q x → P (change x)) → ((y : X) → (number y == number x) ≡ false → Q y → P y)
      → (y : X) (b : Bool) → (number y == number x) ≡ b → ((number y == number x) ≡ true → y ≡ x) → Q y
      → P (with_change y)
  one_changed P Q here there y true e only fact =
      rw e (subst (λ (z : X). P (change z)) (sym (only e)) (here (subst Q (only e) fact)))
  one_changed P Q here there y false e only fact = rw e (there y e fact)

  -- a fact of each item after the change
  pub all_changed : (P Q : X → Type 0) → (Q x → P (change x))
      → ((y : X) → (number y == number x) ≡ false → Q y → P y) → All Q xs → All P changed_items
  all_changed P Q here there facts =
      All-map P with_change xs
      (All-weaker (λ (y : X). ((number y == number x) ≡ true → y ≡ x) × Q y) (λ (y : X). P (with_change y))
      (λ y both. one_changed P Q here there y (number y == number x) refl both.0 both.1) xs
      (all_both (λ (y : X). (number y == number x) ≡ true → y ≡ x) Q xs only_one facts))
