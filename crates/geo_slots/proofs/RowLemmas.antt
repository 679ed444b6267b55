-- The rows of a table, for this crate and those above it: their numbers rise, and a look-up, a change and a removal
-- go through a map of the rows.
use Rattle.std.proofs.Common.{◌≡◌, ℕ, ◌+◌, ◌<◌, ◌≤◌, List, [], ◌∷◌, ◌++◌, map, ◌==◌, not, Some, None, IsSome, refl, ap, arith, filter, find, rules}
use Rattle.std.proofs.lemmas.Bool.{eq-eqb, ne_eqb}
use Rattle.std.specs.Prelude.{if◌then◌else◌}
use Rattle.std.specs.Option.{option_map}
use Rattle.geo_slots.specs.Slots.{IsRising, value_at, with_value, without}

module _ {T : Type 0} where
  pub IsRising_ends : (low : ℕ) (rows : List (ℕ × T)) (high : ℕ) → IsRising low rows high → low ≤ high
  IsRising_ends low [] high rising = rising
  IsRising_ends low (row ∷ rows) high rising = search (rules, IsRising_ends (row.0 + 1) rows high rising.1)

  pub IsRising_from : (low higher : ℕ) (rows : List (ℕ × T)) (high : ℕ) → low ≤ higher → IsRising higher rows high
      → IsRising low rows high
  IsRising_from low higher [] high below rising = omega (arith, below, rising)
  IsRising_from low higher (row ∷ rows) high below rising = (omega (arith, below, rising.0), rising.1)

  -- the next number comes at the end
  pub IsRising-push : (low : ℕ) (rows : List (ℕ × T)) (next : ℕ) (value : T) → IsRising low rows next
      → IsRising low (rows ++ (next, value) ∷ []) (next + 1)
  IsRising-push low [] next value rising = (rising, omega arith)
  IsRising-push low (row ∷ rows) next value rising = (rising.0, IsRising-push (row.0 + 1) rows next value rising.1)

  -- without a number the others still rise
  pub IsRising-without : (n low : ℕ) (rows : List (ℕ × T)) (high : ℕ) → IsRising low rows high
      → IsRising low (without rows n) high
  IsRising-without n low [] high rising = rising
  IsRising-without n low (row ∷ rows) high rising =
      search (
        rules,
        IsRising-without n (row.0 + 1) rows high rising.1,
        IsRising_from low (row.0 + 1) (without rows n) high (omega (arith, rising.0)),
      )

  -- another value under a number leaves the numbers as they are
  pub IsRising-with_value : (n : ℕ) (w : T) (low : ℕ) (rows : List (ℕ × T)) (high : ℕ) → IsRising low rows high
      → IsRising low (with_value rows n w) high
  IsRising-with_value n w low [] high rising = rising
  IsRising-with_value n w low (row ∷ rows) high rising =
      search (rules, IsRising-with_value n w (row.0 + 1) rows high rising.1)

  -- a number below all has no value
  pub value_at_below : (n low : ℕ) (rows : List (ℕ × T)) (high : ℕ) → IsRising low rows high → n < low
      → value_at rows n ≡ None
  value_at_below n low [] high rising below = refl
  value_at_below n low (row ∷ rows) high rising below =
      search (rules, value_at_below n (row.0 + 1) rows high rising.1 (omega (arith, rising.0)))

  -- a number from the next one on has no value
  pub value_at_next : (n low : ℕ) (rows : List (ℕ × T)) (high : ℕ) → IsRising low rows high → high ≤ n
      → value_at rows n ≡ None
  value_at_next n low [] high rising past = refl
  value_at_next n low (row ∷ rows) high rising past =
      let ends = IsRising_ends (row.0 + 1) rows high rising.1 in
      rw (ne_eqb row.0 n (λ same. omega (arith, same))) (value_at_next n (row.0 + 1) rows high rising.1 past)

  -- a number below all changes nothing
  pub with_value_below : (n low : ℕ) (w : T) (rows : List (ℕ × T)) (high : ℕ) → IsRising low rows high → n < low
      → with_value rows n w ≡ rows
  with_value_below n low w [] high rising below = refl
  with_value_below n low w (row ∷ rows) high rising below =
      search (rules, with_value_below n (row.0 + 1) w rows high rising.1 (omega (arith, rising.0)))

  pub without_below : (n low : ℕ) (rows : List (ℕ × T)) (high : ℕ) → IsRising low rows high → n < low
      → without rows n ≡ rows
  without_below n low [] high rising below = refl
  without_below n low (row ∷ rows) high rising below =
      search (rules, without_below n (row.0 + 1) rows high rising.1 (omega (arith, rising.0)))

  -- a number without a value is in no row
  pub without_absent : (n : ℕ) (rows : List (ℕ × T)) → value_at rows n ≡ None → without rows n ≡ rows
  without_absent n [] absent = refl
  without_absent n (row ∷ rows) absent = search (rules, without_absent n rows)

-- Values under numbers after a change of one row, behind one row more, and without a number

module _ {T : Type 0} where
  -- the value that is put under a number is there
  pub value_at-set : (n : ℕ) (w : T) (rows : List (ℕ × T)) → IsSome (value_at rows n)
      → value_at (with_value rows n w) n ≡ Some w
  value_at-set n w [] there = absurd cc
  value_at-set n w (row ∷ rows) there = search (rules, value_at-set n w rows)

  -- the values under the other numbers stay
  pub value_at-kept : (n m : ℕ) (w : T) (rows : List (ℕ × T)) → (m ≡ n → ⊥)
      → value_at (with_value rows n w) m ≡ value_at rows m
  value_at-kept n m w [] other = refl
  value_at-kept n m w (row ∷ rows) other = search (rules, value_at-kept n m w rows other)

  -- of two values under a number the second stays
  pub with_value-twice : (n : ℕ) (v w : T) (rows : List (ℕ × T))
      → with_value (with_value rows n v) n w ≡ with_value rows n w
  with_value-twice n v w [] = refl
  with_value-twice n v w (row ∷ rows) = search (rules, with_value-twice n v w rows)

  -- the value under a number once a row stands behind
  pub value_at-behind : (n m : ℕ) (v : T) (rows : List (ℕ × T)) → IsSome (value_at rows m)
      → value_at (rows ++ (n, v) ∷ []) m ≡ value_at rows m
  value_at-behind n m v [] there = absurd cc
  value_at-behind n m v (row ∷ rows) there = search (rules, value_at-behind n m v rows)

  -- the value of the row behind, where none had its number
  pub value_at-last : (n : ℕ) (v : T) (rows : List (ℕ × T)) → value_at rows n ≡ None
      → value_at (rows ++ (n, v) ∷ []) n ≡ Some v
  value_at-last n v [] none = rw (eq-eqb n n refl) refl
  value_at-last n v (row ∷ rows) none = search (rules, value_at-last n v rows)

  -- another number's value once a row stands behind
  pub value_at-other : (n m : ℕ) (v : T) (rows : List (ℕ × T)) → (n ≡ m → ⊥)
      → value_at (rows ++ (n, v) ∷ []) m ≡ value_at rows m
  value_at-other n m v [] other = rw (ne_eqb n m other) refl
  value_at-other n m v (row ∷ rows) other = search (rules, value_at-other n m v rows other)

  -- the value under a number once another was taken away
  pub value_at-without : (n m : ℕ) (rows : List (ℕ × T)) → (m ≡ n → ⊥) → value_at (without rows n) m ≡ value_at rows m
  value_at-without n m [] other = refl
  value_at-without n m (row ∷ rows) other = search (rules, value_at-without n m rows other)

  -- no value is left under the number that was taken away
  pub value_at-gone : (n : ℕ) (rows : List (ℕ × T)) → value_at (without rows n) n ≡ None
  value_at-gone n [] = refl
  value_at-gone n (row ∷ rows) = search (rules, value_at-gone n rows)

-- A list that is made of the rows, where each item has its row's number, as the lists of a topology are

module _ {T X : Type 0} (item : ℕ × T → X) (number_of : X → ℕ) (keeps : (row : ℕ × T)
    → number_of (item row) ≡ row.0) where
  -- the item of a number, where it has one, is that of the number with its value
  pub find-items : (n : ℕ) (rows : List (ℕ × T))
      → find (λ x. number_of x == n) (map item rows) ≡ option_map (λ value. item (n, value)) (value_at rows n)
  find-items n [] = refl
  find-items n (row ∷ rows) = search (rules, find-items n rows)

  -- a change of the item of a number is a change of its value
  pub change-items : (n : ℕ) (w : T) (change : X → X) (low : ℕ) (rows : List (ℕ × T)) (high : ℕ)
      → IsRising low rows high
      → ((value : T) → value_at rows n ≡ Some value → change (item (n, value)) ≡ item (n, w))
      → map (λ x. if number_of x == n then change x else x) (map item rows) ≡ map item (with_value rows n w)
  change-items n w change low [] high rising changed = refl
  change-items n w change low (row ∷ rows) high rising changed =
      search (
        rules,
        value_at_below n (row.0 + 1) rows high rising.1,
        change-items n w change (row.0 + 1) rows high rising.1,
      )

  -- the items without a number are those of the rows without it
  pub filter-items : (n : ℕ) (rows : List (ℕ × T))
      → filter (λ x. not (number_of x == n)) (map item rows) ≡ map item (without rows n)
  filter-items n [] = refl
  filter-items n (row ∷ rows) = search (rules, ap (λ xs. item row ∷ xs) (filter-items n rows))
