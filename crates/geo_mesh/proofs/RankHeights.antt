-- Heights over a graph without a loop: a function that is one more than its largest value below is the height, and so
-- the rank; and which geoms are reached downwards.
use Rattle.std.specs.Prelude.{◌≡◌, ◌⊎◌, ℕ, zero, suc, ◌+◌, ◌≤◌, ◌==◌, nat_le, Bool, true, false, List, [], ◌∷◌, map, flat_map, length, if◌then◌else◌}
use Rattle.std.specs.List.{list_any}
use Rattle.std.proofs.Common.{refl, sym, ◌∙◌, inl, inr, arith, rules}
use Rattle.std.proofs.lemmas.Bool.{cases_eq, eqb-true, eq-eqb, leb-true, leb-false, or_left, or_right, or_cases}
use Rattle.std.proofs.lemmas.List.Folds.{list_any-append}
use Rattle.std.proofs.Math.Bool.{or-false}
use Rattle.geo_model.specs.Words.{largest}
use Rattle.geo_model.specs.Topology.{Topology}
use Rattle.geo_model.specs.Rank.{rank_within, geoms_under, geoms_reached_within}
use Rattle.geo_mesh.specs.Mending.{IsAmong, above, height, ExceedsThoseBelow, StandsAbove}
use Rattle.geo_mesh.proofs.RankMend.{largest-among, largest-most, largest-same, largest-is}

module _ (below : ℕ → List ℕ) (f : ℕ → ℕ) where
  -- a function that is one more than its largest value below climbs
  pub local-climbs : ((g : ℕ) → f g ≡ above below f g) → ExceedsThoseBelow below f
  local-climbs local x h under = search (rules, largest-among f (below x) h under)

  -- such a function is the height over enough levels
  pub local-height : ((g : ℕ) → f g ≡ above below f g) → (k g : ℕ) → f g ≤ k + 1 → height below k g ≡ f g
  local-height local zero g low = omega (arith, local g)
  local-height local (suc k) g low =
      let same : largest (map (height below k) (below g)) ≡ largest (map f (below g)) =
      largest-same (height below k) f (below g)
      (λ h under. local-height local k h (omega (arith, local-climbs local g h under)))
      in omega (arith, local g)

  -- where a function climbs, one level more changes nothing from the level on that covers what is below
  pub climbs-more : ExceedsThoseBelow below f → ((g : ℕ) → 1 ≤ f g) → (k g : ℕ) → f g ≤ k + 1
      → height below k g ≡ height below (suc k) g
  climbs-more climbs positive zero g low =
      let none : largest (map (height below 0) (below g)) ≤ 0 =
      largest-most (height below 0) 0 (below g) (λ h under. absurd (omega (arith, climbs g h under, positive h)))
      in omega arith
  climbs-more climbs positive (suc k) g low =
      let same : largest (map (height below k) (below g)) ≡ largest (map (height below (suc k)) (below g)) =
      largest-same (height below k) (height below (suc k)) (below g)
      (λ h under. climbs-more climbs positive k h (omega (arith, climbs g h under)))
      in omega arith

  -- so the heights over enough levels climb
  pub height-climbs : ExceedsThoseBelow below f → ((g : ℕ) → 1 ≤ f g) → (k : ℕ) → ((g : ℕ) → f g ≤ k + 1)
      → ExceedsThoseBelow below (height below k)
  height-climbs climbs positive k few x h under =
      search (rules, largest-among (height below k) (below x) h under, climbs-more climbs positive k x (few x))

-- a height is at most one more than the levels
pub height-most : (below : ℕ → List ℕ) (k g : ℕ) → height below k g ≤ k + 1
height-most below zero g = omega arith
height-most below (suc k) g =
    search (rules, largest-most (height below k) (k + 1) (below g) (λ h under. height-most below k h))

-- the rank over so many levels is the height over what is under the geoms
pub rank-height : {C : Type 0} (t : Topology C) (below : ℕ → List ℕ) → ((g : ℕ) → geoms_under t g ≡ below g)
    → (k g : ℕ) → rank_within k t g ≡ height below k g
rank-height t below same zero g = refl
rank-height t below same (suc k) g =
    search (rules, largest-same (rank_within k t) (height below k) (below g) (λ h under. rank-height t below same k h))

-- how many of the numbers have a value of at most n
abbrev count_low : (ℕ → ℕ) → ℕ → List ℕ → ℕ
count_low f n [] = 0
count_low f n (x ∷ xs) = count_low f n xs + (if nat_le (f x) n then 1 else 0)

module _ (f : ℕ → ℕ) where
  -- a value that counts still counts under the next bound
  one_grows : (n v : ℕ) (a b : Bool) → nat_le v n ≡ a → nat_le v (n + 1) ≡ b
      → (if a then 1 else 0) ≤ (if b then 1 else 0)
  one_grows n v false b e k = omega arith
  one_grows n v true true e k = omega arith
  one_grows n v true false e k = absurd (omega (arith, leb-true v n e, leb-false v (n + 1) k))

  -- under the next bound no fewer count
  count_low-grows : (n : ℕ) (xs : List ℕ) → count_low f n xs ≤ count_low f (n + 1) xs
  count_low-grows n [] = omega arith
  count_low-grows n (x ∷ xs) =
      omega (arith, count_low-grows n xs, one_grows n (f x) (nat_le (f x) n) (nat_le (f x) (n + 1)) refl refl)

  -- one with the next value counts
  count_low-more : (n x : ℕ) (xs : List ℕ) → IsAmong xs x → f x ≡ n + 1 → count_low f n xs + 1 ≤ count_low f (n + 1) xs
  count_low-more n x [] there is = absurd there
  count_low-more n x (y ∷ ys) (inl same) is = search (rules, count_low-grows n ys)
  count_low-more n x (y ∷ ys) (inr later) is =
      omega (arith, count_low-more n x ys later is, one_grows n (f y) (nat_le (f y) n) (nat_le (f y) (n + 1)) refl refl)

  -- each counts once at most
  at_most_one : (b : Bool) → (if b then 1 else 0) ≤ 1
  at_most_one true = omega arith
  at_most_one false = omega arith

  -- no more count than are in the list
  count_low-most : (n : ℕ) (xs : List ℕ) → count_low f n xs ≤ length xs
  count_low-most n [] = omega arith
  count_low-most n (x ∷ xs) = omega (arith, count_low-most n xs, at_most_one (nat_le (f x) n))

  -- where each of the values 2 to n + 1 is taken in the list, the list has at least n numbers
  count_low-least : (n : ℕ) (xs : List ℕ) → ((m : ℕ) → 1 ≤ m → m ≤ n → (x : ℕ) × IsAmong xs x × (f x ≡ m + 1))
      → n ≤ count_low f (n + 1) xs
  count_low-least zero xs taken = omega arith
  count_low-least (suc n) xs taken =
      search (
        rules,
        count_low-least n xs (λ m low high. taken m low (omega arith)),
        taken (suc n) (omega arith) (omega arith),
        count_low-more (n + 1),
      )

  -- below a geom each smaller value is taken
  taken_below : (below : ℕ → List ℕ) → ((g : ℕ) → f g ≡ above below f g) → (k g m : ℕ) → f g ≤ k → 1 ≤ m → m ≤ f g
      → (x : ℕ) × (f x ≡ m)
  taken_below below local zero g m few low high = absurd (omega (arith, local g))
  taken_below below local (suc k) g m few low high =
      pick (cases_eq m (f g)) (largest-is f (below g))
      (λ h small covers. taken_below below local k h m small low covers) where
        pick : (m ≡ f g) ⊎ (m ≡ f g → ⊥) → (largest (map f (below g)) ≡ 0)
            ⊎ ((n : ℕ) × IsAmong (below g) n × (f n ≡ largest (map f (below g))))
            → ((h : ℕ) → f h ≤ k → m ≤ f h → (x : ℕ) × (f x ≡ m)) → (x : ℕ) × (f x ≡ m)
        pick (inl same) found so = (g, sym same)
        pick (inr differs) (inl none) so = absurd (omega (arith, local g, differs))
        pick (inr differs) (inr found) so = search rules

  -- a function that is one more than its largest value below, and 1 but for the numbers of a list, is at most one
  -- more than the list's length
  pub local-few : (below : ℕ → List ℕ) (xs : List ℕ) → ((g : ℕ) → f g ≡ above below f g)
      → ((g : ℕ) → 2 ≤ f g → IsAmong xs g) → (g : ℕ) → f g ≤ length xs + 1
  local-few below xs local listed g = least (f g) refl where
    least : (n : ℕ) → f g ≡ n → f g ≤ length xs + 1
    least zero e = omega arith
    least (suc n) e =
        let counted : n ≤ count_low f (n + 1) xs =
        count_low-least n xs (λ m low high.
        (let found : (x : ℕ) × (f x ≡ m + 1) =
        taken_below below local (f g) g (m + 1) (omega arith) (omega arith) (omega arith) in
        (found.0, listed found.0 (omega (arith, found.1)), found.1)))
        in omega (arith, count_low-most (n + 1) xs)

-- whether over so many levels one geom reaches another downwards
abbrev pub reached_in : {C : Type 0} → Topology C → ℕ → ℕ → ℕ → Bool
reached_in t k y g = list_any (λ h. h == g) (geoms_reached_within k t y)

module _ (test : ℕ → Bool) where
  -- one of many lists has an item that passes
  any_flat : (f : ℕ → List ℕ) (ms : List ℕ) (h : ℕ) → IsAmong ms h → list_any test (f h) ≡ true
      → list_any test (flat_map f ms) ≡ true
  any_flat f [] h there passes = absurd there
  any_flat f (m ∷ ms) h (inl same) passes = search (rules, list_any-append test (f m) (flat_map f ms))
  any_flat f (m ∷ ms) h (inr later) passes =
      list_any-append test (f m) (flat_map f ms)
      ∙ or_right (list_any test (f m)) (list_any test (flat_map f ms)) (any_flat f ms h later passes)

  -- an item of many lists that passes is in one of them
  flat_any : (f : ℕ → List ℕ) (ms : List ℕ) → list_any test (flat_map f ms) ≡ true → (h : ℕ) × IsAmong ms h
      × (list_any test (f h) ≡ true)
  flat_any f [] passes = absurd cc
  flat_any f (m ∷ ms) passes =
      search (
        rules,
        or_cases (list_any test (f m)) (list_any test (flat_map f ms))
            (sym (list_any-append test (f m) (flat_map f ms)) ∙ passes),
        flat_any f ms,
      )

module _ {C : Type 0} (t : Topology C) where
  -- a geom reaches itself over any number of levels
  reached_self : (k g y : ℕ) → (y ≡ g) → reached_in t k y g ≡ true
  reached_self zero g y same = or_left (y == g) false (eq-eqb y g same)
  reached_self (suc k) g y same = search rules

  -- what a geom directly below reaches is reached over one level more
  reached_under : (k g y h : ℕ) → IsAmong (geoms_under t y) h → reached_in t k h g ≡ true
      → reached_in t (suc k) y g ≡ true
  reached_under k g y h under there =
      or_right (y == g) (list_any (λ h. h == g) (flat_map (geoms_reached_within k t) (geoms_under t y)))
      (any_flat (λ h. h == g) (geoms_reached_within k t) (geoms_under t y) h under there)

  -- a geom that reaches another downwards stands above it
  pub reached-stands : (k y g : ℕ) → reached_in t k y g ≡ true → StandsAbove (geoms_under t) y g
  reached-stands zero y g there = search rules
  reached-stands (suc k) y g there =
      elim (or_cases (y == g) (list_any (λ h. h == g) (flat_map (geoms_reached_within k t) (geoms_under t y))) there) [
        | inl here ↦ λ has at so. (let same : y ≡ g = eqb-true y g here in rw same at)
        | inr later ↦
            let found : (h : ℕ) × IsAmong (geoms_under t y) h × (reached_in t k h g ≡ true) =
            flat_any (λ h. h == g) (geoms_reached_within k t) (geoms_under t y) later in
            λ has at so. so y found.0 found.1 ((reached-stands k found.0 g found.2) has at so)
      ]

  module _ (f : ℕ → ℕ) (climbs : ExceedsThoseBelow (geoms_under t) f) where
    -- what is reached is reached over as many levels as can be below
    reached_less : (k j y g : ℕ) → f y ≤ j → reached_in t k y g ≡ true → reached_in t j y g ≡ true
    reached_less zero j y g low there = reached_self j g y (eqb-true y g (sym (or-false (y == g)) ∙ there))
    reached_less (suc k) j y g low there =
        pick (search rules) j low (λ i h small e. reached_less k i h g small e) where
          pick : ((y == g) ≡ true)
              ⊎ (list_any (λ h. h == g) (flat_map (geoms_reached_within k t) (geoms_under t y)) ≡ true)
              → (j : ℕ) → f y ≤ j → ((i h : ℕ) → f h ≤ i → reached_in t k h g ≡ true → reached_in t i h g ≡ true)
              → reached_in t j y g ≡ true
          pick (inl here) j low deeper = reached_self j g y (eqb-true y g here)
          pick (inr later) zero low deeper =
              search (rules, flat_any (λ h. h == g) (geoms_reached_within k t) (geoms_under t y) later)
          pick (inr later) (suc j) low deeper =
              let found : (h : ℕ) × IsAmong (geoms_under t y) h × (reached_in t k h g ≡ true) =
              flat_any (λ h. h == g) (geoms_reached_within k t) (geoms_under t y) later in
              reached_under j g y found.0 found.1 (deeper j found.0 (omega (arith, climbs y found.0 found.1)) found.2)

    -- what stands above a geom reaches it over enough levels
    pub stands-reached : (k x g : ℕ) → ((y : ℕ) → f y ≤ k) → StandsAbove (geoms_under t) x g → reached_in t k x g ≡ true
    stands-reached k x g few stands =
        stands (λ y. reached_in t k y g) (reached_self k g g refl)
        (λ y h under there. reached_less (suc k) k y g (few y) (reached_under k g y h under there))
