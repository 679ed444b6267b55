-- What is found in a list, and whether some item passes a test.
use Rattle.std.specs.Prelude.{◌≡◌, ℕ, suc, ◌==◌, Bool, true, false, not, cond, ◌||◌, List, [], ◌∷◌, ◌++◌, length, map, filter, find, Option, Some, None, Contains, IsSome, option_map}
use Rattle.std.specs.List.{AllByRecursion, list_any}
use Rattle.std.specs.Option.{option_or}
use Rattle.std.proofs.Common.{inl, inr, refl, sym, ◌∙◌, ap, subst, arith}
use Rattle.std.proofs.lemmas.Bool.{ne_eqb, or_cases, or_right}
use Rattle.std.proofs.lemmas.List.Elements.{Contains-get_or, Contains-append_right}
use Rattle.std.proofs.lemmas.List.Folds.{find-append}
use Rattle.geo_base.proofs.Options.{or_none}
use Rattle.geo_base.proofs.MemberLists.{Contains-cases, Contains-here, Contains-there, nothing_in}

-- What is found

-- what a search finds is in the list and passes the test
pub found_in : {X : Type 0} (test : X → Bool) (xs : List X) (x : X) → find test xs ≡ Some x
    → Contains xs x × (test x ≡ true)
found_in test [] x found = cc
found_in {X = X} test (y ∷ ys) x found = at (test y) refl (found_in test ys x) found
  where
    at : (b : Bool) → test y ≡ b → (find test ys ≡ Some x → Contains ys x × (test x ≡ true))
        → cond b (Some y) (find test ys) ≡ Some x → Contains (y ∷ ys) x × (test x ≡ true)
    at true passes rest found =
        let same : y ≡ x = cc in
        let here : Contains (y ∷ ys) y = Contains-get_or (y ∷ ys) 0 y (omega arith) in
        (subst (Contains (y ∷ ys)) same here, subst (λ z. test z ≡ true) same passes)
    at false passes rest found = (Contains-append_right (y ∷ []) ys x (rest found).0, (rest found).1)

-- what a search finds passes the test
pub found_passes : {X : Type 0} (test : X → Bool) (xs : List X) (x : X) → find test xs ≡ Some x → test x ≡ true
found_passes test xs x found = (found_in test xs x found).1

-- what a search finds is in the list
pub find-Contains : {X : Type 0} (test : X → Bool) (xs : List X) (x : X) → find test xs ≡ Some x → Contains xs x
find-Contains test xs x found = (found_in test xs x found).0

-- where nothing is found, no item passes
pub none_passes : {X : Type 0} (test : X → Bool) (xs : List X) → find test xs ≡ None
    → AllByRecursion (λ (y : X). test y ≡ false) xs
none_passes test [] none = tt
none_passes {X} test (x ∷ xs) none = by (test x) refl none (none_passes test xs)
  where
    by : (b : Bool) → test x ≡ b → cond b (Some x) (find test xs) ≡ None
        → (find test xs ≡ None → AllByRecursion (λ (y : X). test y ≡ false) xs)
        → AllByRecursion (λ (y : X). test y ≡ false) (x ∷ xs)
    by true passes none rest = absurd (let no : ⊥ = cc in no)
    by false fails none rest = (fails, rest none)

-- tests that agree on each item find the same
pub find_agree : {X : Type 0} (p q : X → Bool) (xs : List X) → AllByRecursion (λ x. p x ≡ q x) xs
    → find p xs ≡ find q xs
find_agree p q [] same = refl
find_agree p q (x ∷ xs) same = (λ i. cond (same.0 i) (Some x) (find_agree p q xs same.1 i))

-- what is found among items seen otherwise is what is found among them, seen so
pub find-map : {X Y : Type 0} (test : Y → Bool) (see : X → Y) (xs : List X)
    → find test (map see xs) ≡ option_map see (find (λ x. test (see x)) xs)
find-map test see [] = refl
find-map {Y = Y} test see (x ∷ xs) = step (test (see x)) (find-map test see xs)
  where
    step : (b : Bool) → find test (map see xs) ≡ option_map see (find (λ x. test (see x)) xs)
        → cond b (Some (see x)) (find test (map see xs))
        ≡ option_map see (cond b (Some x) (find (λ x. test (see x)) xs))
    step true more = refl
    step false more = more

-- With items behind

-- what is found stays found where items are added behind
pub found-before : {X : Type 0} (test : X → Bool) (xs ys : List X) (x : X) → find test xs ≡ Some x
    → find test (xs ++ ys) ≡ Some x
found-before test xs ys x e = find-append test xs ys ∙ (rw e refl)

-- where something is found, something is found with one item more
pub found-still : {X : Type 0} (test : X → Bool) (xs : List X) (y : X) → IsSome (find test xs)
    → IsSome (find test (xs ++ y ∷ []))
found-still {X} test xs y there =
    subst (λ o. IsSome o) (sym (find-append test xs (y ∷ []))) (by (find test xs) there)
  where
    by : (o : Option X) → IsSome o → IsSome (option_or o (find test (y ∷ [])))
    by None never = absurd (let no : ⊥ = cc in no)
    by (Some x) there = refl

-- one item more that doesn't pass isn't found
pub find-pushed : {X : Type 0} (test : X → Bool) (xs : List X) (y : X) → test y ≡ false
    → find test (xs ++ y ∷ []) ≡ find test xs
find-pushed test xs y e =
    let none : find test (y ∷ []) ≡ None = rw e refl in
    find-append test xs (y ∷ []) ∙ ap (option_or (find test xs)) none ∙ or_none (find test xs)

-- one that passes is found where nothing was
pub find-pushed_hit : {X : Type 0} (test : X → Bool) (xs : List X) (y : X) → find test xs ≡ None → test y ≡ true
    → find test (xs ++ y ∷ []) ≡ Some y
find-pushed_hit test xs y none e = find-append test xs (y ∷ []) ∙ (rw (none, e) refl)

-- Whether some item passes

-- an item of a list that passes a test
pub record Passes {X : Type 0} (test : X → Bool) (xs : List X) : Type 0 where
  pub item : X
  pub here : Contains xs item
  pub passes : test item ≡ true

-- one that passes, where some item does
pub some-passes : {X : Type 0} (test : X → Bool) (xs : List X) → list_any test xs ≡ true → Passes test xs
some-passes test [] some = absurd (let no : ⊥ = cc in no)
some-passes test (x ∷ xs) some =
    elim (or_cases (test x) (list_any test xs) some) [
      | inl first ↦ record { item = x; here = Contains-here x xs; passes = first }
      | inr rest ↦
          (let more = some-passes test xs rest in
          record { item = more.item; here = Contains-there x more.item xs more.here; passes = more.passes })
    ]

-- some item passes where one that is contained does
pub any-contained : {X : Type 0} (test : X → Bool) (xs : List X) (x : X) → Contains xs x → test x ≡ true
    → list_any test xs ≡ true
any-contained test [] x c e = absurd (nothing_in x c)
any-contained test (y ∷ xs) x c e =
    elim (Contains-cases y x xs c) [
      | inl same ↦ let first : test y ≡ true = rw same e in rw first refl
      | inr rest ↦ or_right (test y) (list_any test xs) (any-contained test xs x rest e)
    ]

-- whether some item passes that is seen otherwise
pub any-map : {X Y : Type 0} (test : Y → Bool) (see : X → Y) (xs : List X)
    → list_any test (map see xs) ≡ list_any (λ x. test (see x)) xs
any-map test see [] = refl
any-map test see (x ∷ xs) = ap (λ b. test (see x) || b) (any-map test see xs)

-- some item passes where not none is kept
pub any-kept_some : {X : Type 0} (test : X → Bool) (xs : List X)
    → list_any test xs ≡ not (length (filter test xs) == 0)
any-kept_some test [] = refl
any-kept_some {X} test (x ∷ xs) = by (test x) (any-kept_some test xs)
  where
    by : (b : Bool) → list_any test xs ≡ not (length (filter test xs) == 0)
        → (b || list_any test xs) ≡ not (length (cond b (x ∷ filter test xs) (filter test xs)) == 0)
    by true so =
        let some : (suc (length (filter test xs)) == 0) ≡ false =
        ne_eqb (suc (length (filter test xs))) 0 (λ same. omega (arith, same)) in
        sym (ap not some)
    by false so = so
