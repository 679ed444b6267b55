-- Numbers of which some carry a mark.
use Rattle.std.specs.Prelude.{◌≡◌, ℕ, ◌&&◌, nat_le, Bool, true, List, [], Option, IfSome, find, option_map}
use Rattle.std.specs.List.{AllByRecursion}
use Rattle.std.specs.Option.{is_some}
use Rattle.geo_family.specs.Family.{FamilyView, is_parent}
use Rattle.geo_mesh.specs.Rows.{rows_with}

-- each number with whether it is marked, the next number, and for how many more memory is kept
pub record MarksView : Type 0 where
  pub rows : List (ℕ × Bool)
  pub next : ℕ
  pub room : ℕ

-- no number
abbrev pub no_marks : ℕ → MarksView
no_marks room = record { rows = []; next = 1; room = room }

-- the numbers that are the children of a parent are marked
abbrev pub marks_of : FamilyView → MarksView
marks_of f = record { rows = rows_with is_some f.children; next = f.next_child; room = f.child_room }

-- no number has another parent than 1, which stands
pub record IsMarks (f : FamilyView) : Type 0 where
  pub stands : is_parent f.parents 1 ≡ true
  pub under : AllByRecursion (λ row. IfSome row.1 (λ p. p ≡ 1)) f.children

-- the least number with a mark that isn't below a number
abbrev pub first_marked : List (ℕ × Bool) → ℕ → Option ℕ
first_marked rows from_number = option_map (λ row. row.0) (find (λ row. nat_le from_number row.0 && row.1) rows)
