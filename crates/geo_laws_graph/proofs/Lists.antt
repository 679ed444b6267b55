-- Lists after a change of some items, after some are gone, and after one more: what is found, kept and counted there.
use Rattle.std.specs.Prelude.{◌≡◌, ◌⊎◌, ℕ, zero, suc, ◌+◌, ◌<◌, ◌≤◌, ◌==◌, Bool, true, false, List, [], ◌∷◌, ◌++◌, length, map, filter, filter_map, find, Option, Some, None, All, Contains, option_map, if◌then◌else◌, slice_get, not}
use Rattle.std.specs.List.{AllByRecursion, list_any, last_or}
use Rattle.std.specs.List.Sorted.{IsStrictlyIncreasing}
use Rattle.std.proofs.Common.{inl, inr, refl, ◌∙◌, ap, arith, sym}
use Rattle.std.proofs.lemmas.Bool.{eqb-true, eq-eqb, ne_eqb}
use Rattle.std.proofs.lemmas.List.Elements.{All-head, All-tail, All-cons, All-nil}
use Rattle.geo_model.specs.Words.{change_where}
use Rattle.geo_model.specs.Graph.{AreNumbers}
use Rattle.geo_model.proofs.FindLists.{any-kept_some}
use Rattle.geo_model.proofs.FilterLists.{keeps_all}
use Rattle.geo_laws_graph.proofs.Members.{Contains-cases, nothing_in, All-from_contained, filter-Contains}
pub use Rattle.geo_model.proofs.FilterLists.{filter-filter}

module _ {X : Type 0} (hit : X → Bool) (change : X → X) where
  -- an item after the change
  abbrev pub changed : X → X
  changed x = if hit x then change x else x

  -- what an item keeps, where it is changed and where it isn't
  changed_at : {Y : Type 0} (f : X → Y) → ((x : X) → hit x ≡ true → f (change x) ≡ f x) → (x : X) (b : Bool)
      → hit x ≡ b → f (changed x) ≡ f x
  changed_at f same x true e = rw e (same x e)
  changed_at f same x false e = rw e refl

  -- what an item keeps through the change
  pub changed-keeps : {Y : Type 0} (f : X → Y) → ((x : X) → hit x ≡ true → f (change x) ≡ f x) → (x : X)
      → f (changed x) ≡ f x
  changed-keeps f same x = changed_at f same x (hit x) refl

  module _ (test : X → Bool) (same : (x : X) → hit x ≡ true → test (change x) ≡ test x) where
    -- one item more of the walk that finds one
    find_step : (x : X) (xs : List X) (b : Bool) → test x ≡ b
        → find test (change_where hit change xs) ≡ option_map changed (find test xs)
        → find test (change_where hit change (x ∷ xs)) ≡ option_map changed (find test (x ∷ xs))
    find_step x xs true e rest = rw (changed-keeps test same x, e) refl
    find_step x xs false e rest = rw (changed-keeps test same x, e) rest

    -- what is found is what was found, changed
    pub find-changed : (xs : List X) → find test (change_where hit change xs) ≡ option_map changed (find test xs)
    find-changed [] = refl
    find-changed (x ∷ xs) = find_step x xs (test x) refl (find-changed xs)

    -- one item more of those that pass
    filter_step : (x : X) (xs : List X) (b : Bool) → test x ≡ b
        → filter test (change_where hit change xs) ≡ change_where hit change (filter test xs)
        → filter test (change_where hit change (x ∷ xs)) ≡ change_where hit change (filter test (x ∷ xs))
    filter_step x xs true e rest = rw (changed-keeps test same x, e, rest) refl
    filter_step x xs false e rest = rw (changed-keeps test same x, e, rest) refl

    -- what passes is what passed, changed
    pub filter-changed : (xs : List X)
        → filter test (change_where hit change xs) ≡ change_where hit change (filter test xs)
    filter-changed [] = refl
    filter-changed (x ∷ xs) = filter_step x xs (test x) refl (filter-changed xs)

    -- whether one passes stays
    pub any-changed : (xs : List X) → list_any test (change_where hit change xs) ≡ list_any test xs
    any-changed [] = refl
    any-changed (x ∷ xs) = rw (changed-keeps test same x, any-changed xs) refl

  -- the last item is the last one, changed
  pub last-changed : (o : Option X) (xs : List X)
      → last_or (option_map changed o) (change_where hit change xs) ≡ option_map changed (last_or o xs)
  last-changed o [] = refl
  last-changed o (x ∷ xs) = last-changed (Some x) xs

  module _ {Y : Type 0} where
    -- what doesn't change is seen as before
    pub map-changed : (f : X → Y) → ((x : X) → hit x ≡ true → f (change x) ≡ f x) → (xs : List X)
        → map f (change_where hit change xs) ≡ map f xs
    map-changed f same [] = refl
    map-changed f same (x ∷ xs) = ap (λ y. y ∷ map f (change_where hit change xs)) (changed-keeps f same x)
        ∙ ap (λ ys. f x ∷ ys) (map-changed f same xs)

    -- so is what some items give and others don't
    pub filter_map-changed : (f : X → Option Y) → ((x : X) → hit x ≡ true → f (change x) ≡ f x) → (xs : List X)
        → filter_map f (change_where hit change xs) ≡ filter_map f xs
    filter_map-changed f same [] = refl
    filter_map-changed f same (x ∷ xs) = rw (changed-keeps f same x, filter_map-changed f same xs) refl

  -- a fact of an item after the change, where it is changed and where it isn't
  all_at : (P : X → Type 0) → ((x : X) → hit x ≡ true → P x → P (change x)) → (x : X) (b : Bool) → hit x ≡ b → P x
      → P (changed x)
  all_at P so x true e fact = rw e (so x e fact)
  all_at P so x false e fact = rw e fact

  -- a fact of each item that the change keeps
  pub all-changed : (P : X → Type 0) → ((x : X) → hit x ≡ true → P x → P (change x)) → (xs : List X)
      → AllByRecursion P xs → AllByRecursion P (change_where hit change xs)
  all-changed P so [] facts = facts
  all-changed P so (x ∷ xs) facts = (all_at P so x (hit x) refl facts.0, all-changed P so xs facts.1)

  -- there are as many items as before
  pub length-changed : (xs : List X) → length (change_where hit change xs) ≡ length xs
  length-changed [] = refl
  length-changed (x ∷ xs) = ap (λ n. suc n) (length-changed xs)

  -- where nothing is hit, nothing changes
  unhit_step : (x : X) (xs : List X) → hit x ≡ false → change_where hit change xs ≡ xs
      → change_where hit change (x ∷ xs) ≡ x ∷ xs
  unhit_step x xs e rest = rw (e, rest) refl

  -- so for the whole list
  pub unhit : (xs : List X) → AllByRecursion (λ x. hit x ≡ false) xs → change_where hit change xs ≡ xs
  unhit [] none = refl
  unhit (x ∷ xs) none = unhit_step x xs none.0 (unhit xs none.1)

-- one item more of what is found first
first_step : {X : Type 0} (test : X → Bool) (x : X) (xs : List X) (b : Bool) → test x ≡ b
    → find test xs ≡ slice_get (filter test xs) 0 → find test (x ∷ xs) ≡ slice_get (filter test (x ∷ xs)) 0
first_step test x xs true e rest = rw e refl
first_step test x xs false e rest = rw e rest

-- what is found is the first of those that pass
pub find-first : {X : Type 0} (test : X → Bool) (xs : List X) → find test xs ≡ slice_get (filter test xs) 0
find-first test [] = refl
find-first test (x ∷ xs) = first_step test x xs (test x) refl (find-first test xs)

module _ {X : Type 0} (test : X → Bool) (xs ys : List X) (same : filter test xs ≡ filter test ys) where
  -- where the same pass, the same is found
  pub find-same : find test xs ≡ find test ys
  find-same = find-first test xs ∙ ap (λ zs. slice_get zs 0) same ∙ sym (find-first test ys)

  -- and some item passes of both or of none
  pub any-same : list_any test xs ≡ list_any test ys
  any-same = any-kept_some test xs ∙ ap (λ zs. not (length zs == 0)) same ∙ sym (any-kept_some test ys)

module _ {X : Type 0} (keep test : X → Bool) where
  -- what passes stays
  pub filter-kept : ((x : X) → test x ≡ true → keep x ≡ true) → (xs : List X)
      → filter test (filter keep xs) ≡ filter test xs
  filter-kept so xs =
      filter-filter keep test xs
      ∙ keeps_all keep (filter test xs)
      (All-from_contained (λ x. keep x ≡ true) (filter test xs) (λ x c. so x (filter-Contains test xs x c).1))

  -- so it is found as before
  pub find-kept : ((x : X) → test x ≡ true → keep x ≡ true) → (xs : List X) → find test (filter keep xs) ≡ find test xs
  find-kept so xs = find-same test (filter keep xs) xs (filter-kept so xs)

  -- and some item passes just where one did
  pub any-kept : ((x : X) → test x ≡ true → keep x ≡ true) → (xs : List X)
      → list_any test (filter keep xs) ≡ list_any test xs
  any-kept so xs = any-same test (filter keep xs) xs (filter-kept so xs)

  -- one item more of the walk, where what passes goes
  gone_step : (x : X) (xs : List X) (b c : Bool) → test x ≡ b → keep x ≡ c → (test x ≡ true → keep x ≡ false)
      → find test (filter keep xs) ≡ None
      → find test (filter keep (x ∷ xs)) ≡ None
  gone_step x xs true true e f so rest = let goes : keep x ≡ false = so e in absurd cc
  gone_step x xs true false e f so rest = rw f rest
  gone_step x xs false true e f so rest = rw (f, e) rest
  gone_step x xs false false e f so rest = rw f rest

  -- what passes goes: nothing is found
  pub find-gone : ((x : X) → test x ≡ true → keep x ≡ false) → (xs : List X) → find test (filter keep xs) ≡ None
  find-gone so [] = refl
  find-gone so (x ∷ xs) = gone_step x xs (test x) (keep x) refl refl (so x) (find-gone so xs)

-- Numbers that rise

-- the numbers rise from a number on and stay below another, by recursion
abbrev pub Rise : ℕ → List ℕ → ℕ → Type 0
Rise low [] high = Unit {0}
Rise low (n ∷ ns) high = (low ≤ n) × (n < high) × Rise (n + 1) ns high

-- of increasing numbers the rest increase
rest_increases : (n : ℕ) (ns : List ℕ) → IsStrictlyIncreasing (n ∷ ns) → IsStrictlyIncreasing ns
rest_increases n ns up k less = let e : suc k + 1 ≡ suc (k + 1) = omega arith in
    rw e at (up (suc k) (omega (arith, less)))

-- and the first is below the second
first_below : (n m : ℕ) (ns : List ℕ) → IsStrictlyIncreasing (n ∷ m ∷ ns) → n < m
first_below n m ns up = up 0 (omega arith)

-- increasing numbers below an end rise from the first of them, or from a lower number
rise_on : (low n high : ℕ) (ns : List ℕ) → low ≤ n → IsStrictlyIncreasing (n ∷ ns) → All (λ k. k < high) (n ∷ ns)
    → Rise low (n ∷ ns) high
rise_on low n high [] above up below = (above, All-head (λ k. k < high) n [] below, tt)
rise_on low n high (m ∷ ns) above up below = (
  above,
  All-head (λ k. k < high) n (m ∷ ns) below,
  rise_on (n + 1) m high ns (omega (arith, first_below n m ns up)) (rest_increases n (m ∷ ns) up)
      (All-tail (λ k. k < high) n (m ∷ ns) below),
)

-- numbers in order, all of them given out, rise from 0
pub rise-from : (high : ℕ) (ns : List ℕ) → AreNumbers ns high → Rise 0 ns high
rise-from high [] are = tt
rise-from high (n ∷ ns) are = rise_on 0 n high ns (omega arith) are.0 are.1

-- increasing numbers still increase with a lower number before them
increases_on : (n : ℕ) (ns : List ℕ) (high : ℕ) → Rise (n + 1) ns high → IsStrictlyIncreasing ns
    → IsStrictlyIncreasing (n ∷ ns)
increases_on n [] high rise up zero less = absurd (omega (arith, less))
increases_on n [] high rise up (suc k) less = absurd (omega (arith, less))
increases_on n (m ∷ ns) high rise up zero less = omega (arith, rise.0)
increases_on n (m ∷ ns) high rise up (suc k) less = let e : suc k + 1 ≡ suc (k + 1) = omega arith in
    rw e (up k (omega (arith, less)))

-- an empty list of numbers is increasing
no_numbers : IsStrictlyIncreasing []
no_numbers k less = absurd (omega (arith, less))

-- numbers that rise are in order, all of them given out
pub numbers-from : (low high : ℕ) (ns : List ℕ) → Rise low ns high → AreNumbers ns high
numbers-from low high [] rise = (no_numbers, All-nil (λ k. k < high))
numbers-from low high (n ∷ ns) rise =
    let rest = numbers-from (n + 1) high ns rise.2 in
    (increases_on n ns high rise.2 rest.0, All-cons (λ k. k < high) n ns rise.1 rest.1)

-- a lower beginning, and a higher end
pub rise-wider : (low lower high higher : ℕ) (ns : List ℕ) → lower ≤ low → high ≤ higher → Rise low ns high
    → Rise lower ns higher
rise-wider low lower high higher [] down up rise = tt
rise-wider low lower high higher (n ∷ ns) down up rise =
    (omega (arith, rise.0), omega (arith, rise.1), rise-wider (n + 1) (n + 1) high higher ns (omega arith) up rise.2)

module _ {X : Type 0} (number : X → ℕ) where
  -- one more of the next number
  pub rise-push : (low next : ℕ) (xs : List X) (y : X) → low ≤ next → number y ≡ next
      → Rise low (map number xs) next → Rise low (map number (xs ++ y ∷ [])) (next + 1)
  rise-push low next [] y above is rise = (omega (arith, is), omega (arith, is), tt)
  rise-push low next (x ∷ xs) y above is rise =
      (rise.0, omega (arith, rise.1), rise-push (number x + 1) next xs y (omega (arith, rise.1)) is rise.2)

  -- one item more, which stays or goes
  kept_rise : (keep : X → Bool) (low high : ℕ) (x : X) (xs : List X) (b : Bool) → keep x ≡ b
      → Rise low (map number (x ∷ xs)) high
      → Rise (number x + 1) (map number (filter keep xs)) high → Rise low (map number (filter keep (x ∷ xs))) high
  kept_rise keep low high x xs true e rise rest = rw e (rise.0, rise.1, rest)
  kept_rise keep low high x xs false e rise rest =
      rw e (rise-wider (number x + 1) low high high (map number (filter keep xs)) (omega (arith, rise.0))
      (omega arith) rest)

  -- some of them
  pub rise-kept : (keep : X → Bool) (low high : ℕ) (xs : List X) → Rise low (map number xs) high
      → Rise low (map number (filter keep xs)) high
  rise-kept keep low high [] rise = rise
  rise-kept keep low high (x ∷ xs) rise =
      kept_rise keep low high x xs (keep x) refl rise (rise-kept keep (number x + 1) high xs rise.2)

  -- with one more of the next number the list stays in order of numbers
  pub numbers-push : (next : ℕ) (xs : List X) (y : X) → number y ≡ next → AreNumbers (map number xs) next
      → AreNumbers (map number (xs ++ y ∷ [])) (next + 1)
  numbers-push next xs y is are =
      numbers-from 0 (next + 1) _ (rise-push 0 next xs y (omega arith) is (rise-from next _ are))

  -- some of the items stay in order too
  pub numbers-kept : (keep : X → Bool) (next : ℕ) (xs : List X) → AreNumbers (map number xs) next
      → AreNumbers (map number (filter keep xs)) next
  numbers-kept keep next xs are = numbers-from 0 next _ (rise-kept keep 0 next xs (rise-from next _ are))

  -- and so do items that are changed but keep their numbers
  pub numbers-changed : (hit : X → Bool) (change : X → X) → ((x : X) → hit x ≡ true → number (change x) ≡ number x)
      → (next : ℕ) (xs : List X)
      → AreNumbers (map number xs) next → AreNumbers (map number (change_where hit change xs)) next
  numbers-changed hit change same next xs are = rw (map-changed hit change number same xs) are

  -- below where they begin, and from where they end, there is none
  pub none_outside : (low high n : ℕ) (xs : List X) → Rise low (map number xs) high → (n < low) ⊎ (high ≤ n)
      → AllByRecursion (λ x. (number x == n) ≡ false) xs
  none_outside low high n [] rise out = tt
  none_outside low high n (x ∷ xs) rise out = (
    ne_eqb (number x) n (λ same. elim out [ inl below ↦ omega (arith, rise.0) | inr above ↦ omega (arith, rise.1) ]),
    none_outside (number x + 1) high n xs rise.2 (elim out [
      | inl below ↦
          inl (omega (arith, rise.0))
      | inr above ↦ inr above
    ]),
  )

  -- an item of another number is passed over
  none_step : (n : ℕ) (x : X) (xs : List X) → (number x == n) ≡ false → find (λ (y : X). number y == n) xs ≡ None
      → find (λ (y : X). number y == n) (x ∷ xs) ≡ None
  none_step n x xs e rest = rw e rest

  -- nothing is found at a number that no item has
  pub found_nowhere : (n : ℕ) (xs : List X) → AllByRecursion (λ x. (number x == n) ≡ false) xs
      → find (λ (y : X). number y == n) xs ≡ None
  found_nowhere n [] none = refl
  found_nowhere n (x ∷ xs) none = none_step n x xs none.0 (found_nowhere n xs none.1)

  -- nothing has a number that isn't given out yet
  pub found_fresh : (next n : ℕ) (xs : List X) → AreNumbers (map number xs) next → next ≤ n
      → find (λ (y : X). number y == n) xs ≡ None
  found_fresh next n xs are above = found_nowhere n xs (none_outside 0 next n xs (rise-from next _ are) (inr above))

  -- one item more of the walk that finds an item at its number
  itself_step : (low high : ℕ) (x : X) (xs : List X) (y : X) (b : Bool) → (number x == number y) ≡ b
      → Rise low (map number (x ∷ xs)) high
      → Contains xs y → find (λ (z : X). number z == number y) xs ≡ Some y
      → find (λ (z : X). number z == number y) (x ∷ xs) ≡ Some y
  itself_step low high x xs y true e rise c rest =
      let same : number x ≡ number y = eqb-true (number x) (number y) e in
      let none : find (λ (z : X). number z == number y) xs ≡ None =
      found_nowhere (number y) xs (none_outside (number x + 1) high (number y) xs rise.2 (inl (omega arith))) in
      absurd (let bad : ⊥ = cc in bad)
  itself_step low high x xs y false e rise c rest = rw e rest

  -- where numbers rise each item is what is found at its number
  itself_on : (low high : ℕ) (xs : List X) (y : X) → Rise low (map number xs) high → Contains xs y
      → find (λ (z : X). number z == number y) xs ≡ Some y
  itself_on low high [] y rise c = absurd (nothing_in y c)
  itself_on low high (x ∷ xs) y rise c =
      elim (Contains-cases x y xs c) [
        | inl same ↦ rw (same, eq-eqb (number y) (number y) refl) refl
        | inr rest ↦
            itself_step low high x xs y (number x == number y) refl rise rest
            (itself_on (number x + 1) high xs y rise.2 rest)
      ]

  -- each is what is found at its number
  pub found_itself : (next : ℕ) (xs : List X) (y : X) → AreNumbers (map number xs) next → Contains xs y
      → find (λ (z : X). number z == number y) xs ≡ Some y
  found_itself next xs y are c = itself_on 0 next xs y (rise-from next _ are) c
