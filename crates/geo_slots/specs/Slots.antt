-- A table of values under numbers, as contracts see it.
use Rattle.std.specs.Prelude.{ℕ, ◌+◌, ◌-◌, ◌≤◌, ◌==◌, nat_le, not, List, [], ◌∷◌, ◌++◌, Option, map, filter, find, if◌then◌else◌}
use Rattle.std.specs.Option.{option_map}

-- a row is a number with its value; the rows stand in rising order of their numbers
pub record SlotsView (T : Type 0) : Type 0 where
  pub rows : List (ℕ × T)
  pub next : ℕ
  pub spare : ℕ

module _ {T : Type 0} where
  -- the numbers of the rows rise strictly from `low` on, and stay below `high`
  abbrev pub IsRising : ℕ → List (ℕ × T) → ℕ → Type 0
  IsRising low [] high = low ≤ high
  IsRising low (row ∷ rows) high = (low ≤ row.0) × IsRising (row.0 + 1) rows high

  -- the value under a number
  abbrev pub value_at : List (ℕ × T) → ℕ → Option T
  value_at rows number = option_map (λ row. row.1) (find (λ row. row.0 == number) rows)

  -- the first number that isn't below a number
  abbrev pub first_from : List (ℕ × T) → ℕ → Option ℕ
  first_from rows number = option_map (λ row. row.0) (find (λ row. nat_le number row.0) rows)

  -- the rows, with another value under a number that has one
  abbrev pub with_value : List (ℕ × T) → ℕ → T → List (ℕ × T)
  with_value rows number value = map (λ row. if row.0 == number then (number, value) else row) rows

  -- the rows without a number
  abbrev pub without : List (ℕ × T) → ℕ → List (ℕ × T)
  without rows number = filter (λ row. not (row.0 == number)) rows

  -- the table with a value under the next number, in the room that was reserved
  abbrev pub with_insert : SlotsView T → T → SlotsView T
  with_insert s value = record { rows = s.rows ++ (s.next, value) ∷ []; next = s.next + 1; spare = s.spare - 1 }
