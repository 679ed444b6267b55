-- Numbers with names, as contracts see them.
use Rattle.std.specs.Prelude.{ℕ, ◌+◌, ◌&&◌, nat_le, List, [], ◌∷◌, ◌++◌, Option, None, find, filter, option_map}
use Rattle.std.specs.List.{last_or}
use Rattle.geo_model.specs.Words.{same_name}

-- each number with its name, in rising order of the numbers; the next number; for how many more memory is kept
pub record NamesView : Type 0 where
  pub rows : List (ℕ × List ℕ)
  pub next : ℕ
  pub room : ℕ

-- no name
abbrev pub no_names : ℕ → NamesView
no_names room = record { rows = []; next = 1; room = room }

-- with the next number, of a name
abbrev pub with_name : NamesView → List ℕ → NamesView
with_name v name = record v { rows = v.rows ++ (v.next, name) ∷ []; next = v.next + 1 }

-- the least number of a name that isn't below a number
abbrev pub first_named : List (ℕ × List ℕ) → List ℕ → ℕ → Option ℕ
first_named rows name from_number =
    option_map (λ row. row.0) (find (λ row. nat_le from_number row.0 && same_name row.1 name) rows)

-- the greatest number of a name
abbrev pub last_named : List (ℕ × List ℕ) → List ℕ → Option ℕ
last_named rows name = option_map (λ row. row.0) (last_or None (filter (λ row. same_name row.1 name) rows))
