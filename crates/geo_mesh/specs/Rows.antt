-- Lists of rows, each a number with a value, in rising order of the numbers.
use Rattle.std.specs.Prelude.{ℕ, ◌==◌, nat_le, Bool, false, ◌&&◌, List, Option, Some, None, map, find, if◌then◌else◌}

module _ {T U : Type 0} where
  -- a row with its value seen otherwise
  abbrev pub row_with : (T → U) → ℕ × T → ℕ × U
  row_with f row = (row.0, f row.1)

  -- the rows with each value seen otherwise
  abbrev pub rows_with : (T → U) → List (ℕ × T) → List (ℕ × U)
  rows_with f rows = map (row_with f) rows

module _ {T : Type 0} where
  -- the rows with the value under a number changed
  abbrev pub change_at : (T → T) → List (ℕ × T) → ℕ → List (ℕ × T)
  change_at change rows number = map (λ row. if row.0 == number then (number, change row.1) else row) rows

  -- whether a value that may be there passes a test
  abbrev pub passes : (T → Bool) → Option T → Bool
  passes test None = false
  passes test (Some v) = test v

  -- the first row from a number on whose value passes a test
  abbrev pub first_row : (T → Bool) → List (ℕ × T) → ℕ → Option (ℕ × T)
  first_row test rows number = find (λ row. nat_le number row.0 && test row.1) rows
