-- What is found at a number in a list of numbered things, after a change of one of them.
use Rattle.std.specs.Prelude.{◌≡◌, ◌≢◌, ℕ, ◌==◌, Bool, true, false, not, ◌&&◌, ◌||◌, List, [], ◌∷◌, ◌++◌, map, filter, find, Option, Some, None, Contains, IsSome, option_map}
use Rattle.std.specs.List.{AllByRecursion, list_any}
use Rattle.std.proofs.Common.{refl, sym, ◌∙◌, ap, subst, arith}
use Rattle.std.proofs.lemmas.Bool.{eqb-true, eq-eqb, ne_eqb, and_left, and_parts, and_from}
use Rattle.std.proofs.Math.Bool.{or-false}
use Rattle.std.proofs.lemmas.List.{append-nil}
use Rattle.std.proofs.lemmas.List.Folds.{list_any-append}
use Rattle.std.proofs.lemmas.List.Elements.{filter-append}
use Rattle.geo_model.specs.Words.{change_where}
use Rattle.geo_model.specs.Graph.{AreNumbers}
use Rattle.geo_model.proofs.DemandLemmas.{find_passes}
use Rattle.geo_laws_graph.proofs.Members.{has, find-Contains, Contains-map, All-from_contained}
use Rattle.geo_laws_graph.proofs.Lists.{changed, find-changed, any-changed, find-kept, find-gone, any-kept, found_fresh, found_itself}
pub use Rattle.geo_model.proofs.FindLists.{find-pushed, find-pushed_hit, any-contained}

-- of one item that doesn't pass nothing is kept
filter_miss : {X : Type 0} (test : X → Bool) (y : X) → test y ≡ false → filter test (y ∷ []) ≡ []
filter_miss test y e = rw e refl

-- one that passes is kept
filter_hit : {X : Type 0} (test : X → Bool) (y : X) → test y ≡ true → filter test (y ∷ []) ≡ y ∷ []
filter_hit test y e = rw e refl

module _ {X : Type 0} (test : X → Bool) (xs : List X) (y : X) where
  -- so what is kept is as before
  pub filter-pushed : test y ≡ false → filter test (xs ++ y ∷ []) ≡ filter test xs
  filter-pushed e = filter-append test xs (y ∷ []) ∙ ap (λ ys. filter test xs ++ ys) (filter_miss test y e)
      ∙ append-nil (filter test xs)

  -- one that passes
  pub filter-pushed_hit : test y ≡ true → filter test (xs ++ y ∷ []) ≡ filter test xs ++ y ∷ []
  filter-pushed_hit e = filter-append test xs (y ∷ []) ∙ ap (λ ys. filter test xs ++ ys) (filter_hit test y e)

  -- with one more some item passes just where one did or the new one does
  pub any-pushed : list_any test (xs ++ y ∷ []) ≡ (list_any test xs || test y)
  any-pushed = list_any-append test xs (y ∷ []) ∙ ap (λ b. list_any test xs || b) (or-false (test y))

-- nothing is found where none passes
none_step : {X : Type 0} (test : X → Bool) (x : X) (xs : List X) (b : Bool) → test x ≡ b
    → (list_any test xs ≡ false → find test xs ≡ None)
    → list_any test (x ∷ xs) ≡ false → find test (x ∷ xs) ≡ None
none_step test x xs true e so none = let bad : true ≡ false = rw e at none in absurd cc
none_step test x xs false e so none = rw e (so (rw e at none))

-- so for the whole list
pub find-none : {X : Type 0} (test : X → Bool) (xs : List X) → list_any test xs ≡ false → find test xs ≡ None
find-none test [] none = refl
find-none test (x ∷ xs) none = none_step test x xs (test x) refl (λ h. find-none test xs h) none

module _ {X : Type 0} (number : X → ℕ) where
  -- what is found at a number
  abbrev pub at : List X → ℕ → Option X
  at xs n = find (λ (x : X). number x == n) xs

  -- each is what is found at its number
  pub each_found : (next : ℕ) (xs : List X) → AreNumbers (map number xs) next
      → AllByRecursion (λ (x : X). at xs (number x) ≡ Some x) xs
  each_found next xs are =
      All-from_contained (λ (x : X). at xs (number x) ≡ Some x) xs (λ x here. found_itself number next xs x are here)

  -- what is found at a number has it
  pub number_found : (xs : List X) (n : ℕ) (x : X) → at xs n ≡ Some x → number x ≡ n
  number_found xs n x e = eqb-true (number x) n (find_passes (λ (y : X). number y == n) xs x e)

  -- one more of the next number
  pub at-new : (next : ℕ) (xs : List X) (y : X) → number y ≡ next → AreNumbers (map number xs) next
      → at (xs ++ y ∷ []) next ≡ Some y
  at-new next xs y is are =
      find-pushed_hit (λ (x : X). number x == next) xs y (found_fresh number next next xs are (omega arith))
      (eq-eqb (number y) next is)

  -- at other numbers the same is found
  pub at-others : (xs : List X) (y : X) (n : ℕ) → n ≢ number y → at (xs ++ y ∷ []) n ≡ at xs n
  at-others xs y n apart = find-pushed (λ (x : X). number x == n) xs y (ne_eqb (number y) n (λ same. apart (sym same)))

  -- one less
  pub at-gone : (n : ℕ) (xs : List X) → at (filter (λ (x : X). not (number x == n)) xs) n ≡ None
  at-gone n xs = find-gone (λ (x : X). not (number x == n)) (λ (x : X). number x == n) (λ x e. rw e refl) xs

  -- an item of another number stays
  stays_if : (n m : ℕ) → m ≢ n → (x : X) → (number x == m) ≡ true → not (number x == n) ≡ true
  stays_if n m apart x e = let is = eqb-true (number x) m e in
      rw (ne_eqb (number x) n (λ same. apart (sym is ∙ same))) refl

  -- so at other numbers the same is found
  pub at-kept : (n m : ℕ) → m ≢ n → (xs : List X) → at (filter (λ (x : X). not (number x == n)) xs) m ≡ at xs m
  at-kept n m apart xs = find-kept (λ (x : X). not (number x == n)) (λ (x : X). number x == m) (stays_if n m apart) xs

  -- a test beside the number
  pub any-kept_at : (test : X → Bool) (n m : ℕ) → m ≢ n → (xs : List X)
      → list_any (λ (x : X). (number x == m) && test x) (filter (λ (x : X). not (number x == n)) xs)
      ≡ list_any (λ (x : X). (number x == m) && test x) xs
  any-kept_at test n m apart xs =
      any-kept (λ (x : X). not (number x == n)) (λ (x : X). (number x == m) && test x)
      (λ x e. stays_if n m apart x (and_parts (number x == m) (test x) e).0) xs

  -- a test that the one of the number doesn't pass
  unique_step : (next n : ℕ) (xs : List X) (x : X) → AreNumbers (map number xs) next → at xs n ≡ Some x → (y : X)
      → Contains xs y → (number y == n) ≡ true → y ≡ x
  unique_step next n xs x are found y here e =
      let is : at xs (number y) ≡ Some y = found_itself number next xs y are here in
      let is_too : at xs n ≡ Some y = subst (λ (m : ℕ). at xs m ≡ Some y) (eqb-true (number y) n e) is in
      cc

  -- only what is found at a number has it
  pub unique : (next n : ℕ) (xs : List X) (x : X) → AreNumbers (map number xs) next → at xs n ≡ Some x
      → AllByRecursion (λ (y : X). (number y == n) ≡ true → y ≡ x) xs
  unique next n xs x are found =
      All-from_contained (λ (y : X). (number y == n) ≡ true → y ≡ x) xs (unique_step next n xs x are found)

  module _ (change : X → X) (same : (x : X) → number (change x) ≡ number x) (n : ℕ) where
    -- what is changed has the number that it had
    keeps_number : (m : ℕ) (x : X) → (number x == n) ≡ true → (number (change x) == m) ≡ (number x == m)
    keeps_number m x e = ap (λ k. k == m) (same x)

    -- one is changed
    pub at-here : (xs : List X) (x : X) → at xs n ≡ Some x
        → at (change_where (λ (y : X). number y == n) change xs) n ≡ Some (change x)
    at-here xs x found =
        find-changed (λ (y : X). number y == n) change (λ (y : X). number y == n) (keeps_number n) xs
        ∙ ap (option_map (changed (λ (y : X). number y == n) change)) found
        ∙ ap (λ y. Some y) (changed_hit (find_passes (λ (y : X). number y == n) xs x found))
      where
        -- the one of the number is changed
        changed_hit : (number x == n) ≡ true → changed (λ (y : X). number y == n) change x ≡ change x
        changed_hit e = rw e refl

    -- what is found at another number isn't changed
    unchanged : (m : ℕ) → m ≢ n → (xs : List X) (o : Option X) → at xs m ≡ o
        → option_map (changed (λ (y : X). number y == n) change) o ≡ o
    unchanged m apart xs None e = refl
    unchanged m apart xs (Some x) e =
        let is : number x ≡ m = number_found xs m x e in
        let other : (number x == n) ≡ false = ne_eqb (number x) n (λ k. apart (sym is ∙ k)) in
        rw other refl

    -- so at other numbers the same is found
    pub at-unchanged : (m : ℕ) → m ≢ n → (xs : List X)
        → at (change_where (λ (y : X). number y == n) change xs) m ≡ at xs m
    at-unchanged m apart xs =
        find-changed (λ (y : X). number y == n) change (λ (y : X). number y == m) (keeps_number m) xs
        ∙ unchanged m apart xs (at xs m) refl

    -- a test beside another number
    other_test : (test : X → Bool) (m : ℕ) → m ≢ n → (x : X) → (number x == n) ≡ true
        → ((number (change x) == m) && test (change x)) ≡ ((number x == m) && test x)
    other_test test m apart x e =
        let is : number x ≡ n = eqb-true (number x) n e in
        let before : (number x == m) ≡ false = ne_eqb (number x) m (λ k. apart (sym k ∙ is)) in
        let after : (number (change x) == m) ≡ false = ap (λ k. k == m) (same x) ∙ before in
        and_left (number (change x) == m) (test (change x)) after ∙ sym (and_left (number x == m) (test x) before)

    -- so one of another number passes just where it did
    pub any-unchanged : (test : X → Bool) (m : ℕ) → m ≢ n → (xs : List X)
        → list_any (λ (x : X). (number x == m) && test x) (change_where (λ (y : X). number y == n) change xs)
        ≡ list_any (λ (x : X). (number x == m) && test x) xs
    any-unchanged test m apart xs =
        any-changed (λ (y : X). number y == n) change (λ (x : X). (number x == m) && test x)
        (other_test test m apart) xs

    -- the one that is changed passes
    pub any-here : (test : X → Bool) → ((x : X) → test (change x) ≡ true) → (xs : List X) → IsSome (at xs n)
        → list_any (λ (x : X). (number x == n) && test x) (change_where (λ (y : X). number y == n) change xs) ≡ true
    any-here test so xs there =
        let x = has (at xs n) there in
        let e : (number x.item == n) ≡ true = find_passes (λ (y : X). number y == n) xs x.item x.is in
        let new : changed (λ (y : X). number y == n) change x.item ≡ change x.item = rw e refl in
        let here : Contains (change_where (λ (y : X). number y == n) change xs) (change x.item) =
        subst (Contains (change_where (λ (y : X). number y == n) change xs)) new
        (Contains-map (changed (λ (y : X). number y == n) change) xs x.item
        (find-Contains (λ (y : X). number y == n) xs x.item x.is)) in
        any-contained (λ (y : X). (number y == n) && test y) (change_where (λ (y : X). number y == n) change xs)
        (change x.item) here
        (and_from (number (change x.item) == n) (test (change x.item)) (keeps_number n x.item e ∙ e) (so x.item))
