-- Children with parents, as contracts see them.
use Rattle.std.specs.Prelude.{ℕ, ◌==◌, ◌&&◌, nat_le, Bool, false, List, Option, Some, None, filter, find}
use Rattle.std.specs.List.{list_any, last_or}
use Rattle.std.specs.Option.{option_map}

-- the numbers of the parents, and each child with its parent, if it has one; the rows stand in rising order of the
-- children; the next numbers, and for how many more parents and children memory is kept
pub record FamilyView : Type 0 where
  pub parents : List ℕ
  pub children : List (ℕ × Option ℕ)
  pub next_parent : ℕ
  pub next_child : ℕ
  pub parent_room : ℕ
  pub child_room : ℕ

-- whether the parent that may be there is this one
abbrev pub names : Option ℕ → ℕ → Bool
names None parent = false
names (Some p) parent = p == parent

-- whether a number is among the parents
abbrev pub is_parent : List ℕ → ℕ → Bool
is_parent parents parent = list_any (λ n. n == parent) parents

-- whether a parent has a child
abbrev pub has_child : List (ℕ × Option ℕ) → ℕ → Bool
has_child children parent = list_any (λ row. names row.1 parent) children

-- the least child of a parent that isn't below a number
abbrev pub first_child : List (ℕ × Option ℕ) → ℕ → ℕ → Option ℕ
first_child children parent number =
    option_map (λ row. row.0) (find (λ row. nat_le number row.0 && names row.1 parent) children)

-- the greatest child of a parent
abbrev pub last_child : List (ℕ × Option ℕ) → ℕ → Option ℕ
last_child children parent = option_map (λ row. row.0) (last_or None (filter (λ row. names row.1 parent) children))
