-- The numbers of rows without one of them; and names that are the same.
use Rattle.std.specs.Prelude.{◌≡◌, ℕ, ◌==◌, Bool, true, false, not, List, [], ◌∷◌, IsSome, map, filter}
use Rattle.std.proofs.Common.{refl, ap}
use Rattle.std.proofs.lemmas.Bool.{eq-eqb, eqb-true, and_parts}
use Rattle.geo_slots.specs.Slots.{value_at, without}
use Rattle.geo_family.specs.Family.{is_parent}
use Rattle.geo_model.specs.Words.{same_name}

-- the same bytes are the same name
pub same_is : (a b : List ℕ) → same_name a b ≡ true → a ≡ b
same_is [] [] e = refl
same_is [] (y ∷ ys) e = absurd (cc)
same_is (x ∷ xs) [] e = absurd (cc)
same_is (x ∷ xs) (y ∷ ys) e =
    let parts = and_parts (x == y) (same_name xs ys) e in λ i. eqb-true x y parts.0 i ∷ same_is xs ys parts.1 i

-- and a name is the same as itself
pub is_same : (a : List ℕ) → same_name a a ≡ true
is_same [] = refl
is_same (x ∷ xs) = rw (eq-eqb x x refl) (is_same xs)

module _ {T : Type 0} where
  -- the numbers without one of them
  pub numbers-without : (n : ℕ) (rows : List (ℕ × T))
      → filter (λ m. not (m == n)) (map (λ (row : ℕ × T). row.0) rows) ≡ map (λ (row : ℕ × T). row.0) (without rows n)
  numbers-without n [] = refl
  numbers-without n (row ∷ rows) = at (row.0 == n) refl (numbers-without n rows) where
    at : (b : Bool) → (row.0 == n) ≡ b
        → filter (λ m. not (m == n)) (map (λ (r : ℕ × T). r.0) rows) ≡ map (λ (r : ℕ × T). r.0) (without rows n)
        → filter (λ m. not (m == n)) (map (λ (r : ℕ × T). r.0) (row ∷ rows))
        ≡ map (λ (r : ℕ × T). r.0) (without (row ∷ rows) n)
    at true e rest = rw e rest
    at false e rest = rw e (ap (λ ns. row.0 ∷ ns) rest)

-- a number with a value is among the numbers
pub number_stands : {T : Type 0} (rows : List (ℕ × T)) (n : ℕ) → IsSome (value_at rows n)
    → is_parent (map (λ (row : ℕ × T). row.0) rows) n ≡ true
number_stands [] n there = absurd cc
number_stands (row ∷ rows) n there = at (row.0 == n) refl there (λ later. number_stands rows n later) where
  at : (b : Bool) → (row.0 == n) ≡ b → IsSome (value_at (row ∷ rows) n)
      → (IsSome (value_at rows n) → is_parent (map (λ r. r.0) rows) n ≡ true)
      → is_parent (map (λ r. r.0) (row ∷ rows)) n ≡ true
  at true e there later = rw e refl
  at false e there later = rw e (later (rw e at there))
