-- Marks, over the family that keeps them.
use Rattle.std.specs.Prelude.{◌≡◌, ℕ, ◌==◌, Bool, false, List, [], ◌∷◌, ◌++◌, Option, Some, None, IfSome, find, option_map}
use Rattle.std.specs.List.{AllByRecursion}
use Rattle.std.specs.Option.{is_some}
use Rattle.std.proofs.Common.{refl, arith, rules}
use Rattle.std.proofs.lemmas.Bool.{eq-eqb, le-leb}
use Rattle.std.proofs.lemmas.List.{map-append}
use Rattle.geo_slots.specs.Slots.{with_value, without}
use Rattle.geo_family.specs.Family.{names, first_child}
use Rattle.geo_mesh.specs.Rows.{row_with, rows_with}
use Rattle.geo_mesh.specs.Marks.{first_marked}
use Rattle.geo_mesh.proofs.RowLemmas.{map-without}

-- a number under parent 1, or under none
abbrev pub IsUnder : ℕ × Option ℕ → Type 0
IsUnder row = IfSome row.1 (λ p. p ≡ 1)

-- the parent, if there is one, is 1
names_one : (o : Option ℕ) → IfSome o (λ p. p ≡ 1) → names o 1 ≡ is_some o
names_one None under = refl
names_one (Some p) under = eq-eqb p 1 under

module _ (from_number : ℕ) where
  -- the first child is the first number with a mark
  pub first-marked : (rows : List (ℕ × Option ℕ)) → AllByRecursion IsUnder rows
      → first_child rows 1 from_number ≡ first_marked (rows_with is_some rows) from_number
  first-marked [] under = refl
  first-marked (row ∷ rows) under = grind (arith, names_one row.1 under.0, first-marked rows under.1)

-- one number more, without a mark
pub under-push : (rows : List (ℕ × Option ℕ)) (k : ℕ) → AllByRecursion IsUnder rows
    → AllByRecursion IsUnder (rows ++ (k, None) ∷ [])
under-push [] k under = (tt, tt)
under-push (row ∷ rows) k under = (under.0, under-push rows k under.1)

-- so the marks are as before, with one more
pub marks-push : (rows : List (ℕ × Option ℕ)) (k : ℕ)
    → rows_with is_some (rows ++ (k, None) ∷ []) ≡ rows_with is_some rows ++ (k, false) ∷ []
marks-push rows k = map-append (row_with is_some) rows ((k, None) ∷ [])

-- one number less
pub under-without : (k : ℕ) (rows : List (ℕ × Option ℕ)) → AllByRecursion IsUnder rows
    → AllByRecursion IsUnder (without rows k)
under-without k [] under = tt
under-without k (row ∷ rows) under = search (rules, under-without k rows under.1)

-- so the marks of the others are as before
pub marks-without : (k : ℕ) (rows : List (ℕ × Option ℕ))
    → rows_with is_some (without rows k) ≡ without (rows_with is_some rows) k
marks-without k rows = map-without (row_with is_some) k (λ (row : ℕ × Bool). row.0 == k) (λ row. refl) rows

-- another parent, which is 1, or none
pub under-set : (k : ℕ) (o : Option ℕ) (rows : List (ℕ × Option ℕ)) → IfSome o (λ p. p ≡ 1)
    → AllByRecursion IsUnder rows → AllByRecursion IsUnder (with_value rows k o)
under-set k o [] one under = tt
under-set k o (row ∷ rows) one under = search (rules, under-set k o rows one under.1)

-- from the first number on, the least with a mark is the first with a mark
pub first-of_all : (rows : List (ℕ × Bool))
    → first_marked rows 0 ≡ option_map (λ (r : ℕ × Bool). r.0) (find (λ r. r.1) rows)
first-of_all [] = refl
first-of_all (row ∷ rows) = grind (arith, le-leb 0 row.0 (omega arith), first-of_all rows)
