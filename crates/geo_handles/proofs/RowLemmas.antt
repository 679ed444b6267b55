-- Lists made of rows, of which a test finds the one under a number that may be there.
use Rattle.std.specs.Prelude.{◌≡◌, ℕ, ◌+◌, ◌≤◌, Bool, true, false, List, [], ◌∷◌, length, Option, Some, None, map, find, option_map}
use Rattle.std.specs.List.{AllByRecursion}
use Rattle.std.specs.Option.{option_and_then}
use Rattle.std.proofs.Common.{refl, sym, ◌∙◌, ap, inl, inr, arith}
use Rattle.std.proofs.lemmas.Bool.{cases_eq, eq-eqb, ne_eqb}
use Rattle.geo_model.specs.Words.{change_where}
use Rattle.geo_slots.specs.Slots.{IsRising, value_at, with_value, without}
use Rattle.geo_slots.proofs.RowLemmas.{value_at_below, without_below}
use Rattle.geo_handles.specs.Handles.{is_at}

module _ {T : Type 0} where
  -- what holds of each number with its value holds of each row
  pub all-rows : (P : ℕ × T → Type 0) (low high : ℕ) (rows : List (ℕ × T)) → IsRising low rows high
      → ((n : ℕ) (v : T) → value_at rows n ≡ Some v → P (n, v)) → AllByRecursion P rows
  all-rows P low high [] rising each = tt
  all-rows P low high (row ∷ rows) rising each = (
    each row.0 row.1 (rw (eq-eqb row.0 row.0 refl) refl),
    all-rows P (row.0 + 1) high rows rising.1
        (λ n v at. each n v (rw (ne_eqb row.0 n (λ same. apart n v same at)) at)),
  )
    where
      apart : (n : ℕ) (v : T) → row.0 ≡ n → value_at rows n ≡ Some v → ⊥
      apart n v same at =
          let none = value_at_below n (row.0 + 1) rows high rising.1 (omega (arith, same)) in
          let never : None ≡ Some v = sym none ∙ at in cc

  -- there are no more rows than numbers
  pub rows-few : (low high : ℕ) (rows : List (ℕ × T)) → IsRising low rows high → low + length rows ≤ high
  rows-few low high [] rising = omega (arith, rising)
  rows-few low high (row ∷ rows) rising =
      let rest = rows-few (row.0 + 1) high rows rising.1 in omega (arith, rising.0, rest)

  -- without a number that has a value there is one row less
  pub length-without : (n : ℕ) (v : T) (low high : ℕ) (rows : List (ℕ × T)) → IsRising low rows high
      → value_at rows n ≡ Some v → length rows ≡ length (without rows n) + 1
  length-without n v low high [] rising at = absurd cc
  length-without n v low high (row ∷ rows) rising at =
      elim (cases_eq row.0 n) [
        | inl same ↦
            let kept = without_below n (row.0 + 1) rows high rising.1 (omega (arith, same)) in
            rw (eq-eqb row.0 n same, kept) (omega arith)
        | inr other ↦
            let rest = length-without n v (row.0 + 1) high rows rising.1 (rw (ne_eqb row.0 n other) at at) in
            rw (ne_eqb row.0 n other) (omega (arith, rest))
      ]

-- what holds of the item of each row holds of each item
pub all-items : {T X : Type 0} (item : ℕ × T → X) (P : X → Type 0) (rows : List (ℕ × T))
    → AllByRecursion (λ row. P (item row)) rows → AllByRecursion P (map item rows)
all-items item P [] all = tt
all-items item P (row ∷ rows) all = (all.0, all-items item P rows all.1)

module _ {T X : Type 0} (item : ℕ × T → X) (test : X → Bool) where
  -- the test passes just the item of a number that may be there
  abbrev pub IsOf : Option ℕ → ℕ × T → Type 0
  IsOf o row = test (item row) ≡ is_at o row.0

  -- so it finds that one
  pub find-one : (o : Option ℕ) (rows : List (ℕ × T)) → AllByRecursion (IsOf o) rows
      → find test (map item rows) ≡ option_and_then (λ n. option_map (λ v. item (n, v)) (value_at rows n)) o
  find-one None [] all = refl
  find-one None (row ∷ rows) all = rw all.0 (find-one None rows all.1)
  find-one (Some n) [] all = refl
  find-one (Some n) (row ∷ rows) all =
      elim (cases_eq row.0 n) [
        | inl same ↦
            let e : test (item row) ≡ true = all.0 ∙ eq-eqb row.0 n same in
            rw (e, eq-eqb row.0 n same) (ap (λ m. Some (item (m, row.1))) same)
        | inr other ↦
            let e : test (item row) ≡ false = all.0 ∙ ne_eqb row.0 n other in
            rw (e, ne_eqb row.0 n other) (find-one (Some n) rows all.1)
      ]

  -- where there is none, nothing changes
  pub change-none : (change : X → X) (rows : List (ℕ × T)) → AllByRecursion (IsOf None) rows
      → change_where test change (map item rows) ≡ map item rows
  change-none change [] all = refl
  change-none change (row ∷ rows) all = rw all.0 (ap (λ xs. item row ∷ xs) (change-none change rows all.1))

  module _ (n : ℕ) (w : T) (change : X → X) where
    -- a change where the test passes is another value under the number
    pub change-one : (rows : List (ℕ × T)) → AllByRecursion (IsOf (Some n)) rows
        → AllByRecursion (λ row. row.0 ≡ n → change (item row) ≡ item (n, w)) rows
        → change_where test change (map item rows) ≡ map item (with_value rows n w)
    change-one [] all changed = refl
    change-one (row ∷ rows) all changed =
        elim (cases_eq row.0 n) [
          | inl same ↦
              let e : test (item row) ≡ true = all.0 ∙ eq-eqb row.0 n same in
              let here = changed.0 same in
              rw (e, eq-eqb row.0 n same, here) (ap (λ xs. item (n, w) ∷ xs) (change-one rows all.1 changed.1))
          | inr other ↦
              let e : test (item row) ≡ false = all.0 ∙ ne_eqb row.0 n other in
              rw (e, ne_eqb row.0 n other) (ap (λ xs. item row ∷ xs) (change-one rows all.1 changed.1))
        ]
