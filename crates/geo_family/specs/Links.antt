-- How a family keeps its order: each child knows its neighbours, and each parent its first and its last child.
use Rattle.std.specs.Prelude.{ℕ, ◌==◌, List, Option, Some, None, map, if◌then◌else◌}
use Rattle.std.specs.Option.{option_and_then}
use Rattle.geo_slots.specs.Slots.{IsRising, value_at}
use Rattle.geo_family.specs.declared.family.Link.{Link}
use Rattle.geo_family.specs.declared.family.Ends.{Ends}
use Rattle.geo_family.specs.Nearest.{NextIsNearest, IsFirst, Up, Down}

module _ {T : Type 0} where
  -- the rows with the value under a number changed
  abbrev pub change_at : (T → T) → List (ℕ × T) → ℕ → List (ℕ × T)
  change_at change rows number = map (λ row. if row.0 == number then (row.0, change row.1) else row) rows

  -- a part of the value under a number
  abbrev pub part_at : (T → Option ℕ) → List (ℕ × T) → ℕ → Option ℕ
  part_at part rows number = option_and_then part (value_at rows number)

-- the parts of a link and of the ends
abbrev pub parent_of : Link → Option ℕ
parent_of l = l.parent

-- the child before, of a link
abbrev pub before_of : Link → Option ℕ
before_of l = l.before

-- the child after, of a link
abbrev pub after_of : Link → Option ℕ
after_of l = l.after

-- the first child, of the ends
abbrev pub first_in_ends : Ends → Option ℕ
first_in_ends e = e.first

-- the last child, of the ends
abbrev pub last_in_ends : Ends → Option ℕ
last_in_ends e = e.last

-- the rows of children, each with its parent
abbrev pub child_rows : List (ℕ × Link) → List (ℕ × Option ℕ)
child_rows links = map (λ row. (row.0, row.1.parent)) links

-- the neighbours of each child are those of its parent's children, and the ends of each parent are the first and the
-- last of its children
pub record IsFamily (links : List (ℕ × Link)) (ends : List (ℕ × Ends)) : Type 0 where
  pub afters : NextIsNearest Up (part_at parent_of links) (part_at after_of links)
  pub befores : NextIsNearest Down (part_at parent_of links) (part_at before_of links)
  pub firsts : IsFirst Up (part_at parent_of links) (part_at first_in_ends ends)
  pub lasts : IsFirst Down (part_at parent_of links) (part_at last_in_ends ends)

-- and the children stand in order of their numbers, below the next one
pub record IsOrderly (links : List (ℕ × Link)) (next : ℕ) (ends : List (ℕ × Ends)) : Type 0 where
  pub family : IsFamily links ends
  pub rising : IsRising 1 links next

-- with another number after a child
abbrev pub with_after : Option ℕ → Option ℕ → List (ℕ × Link) → List (ℕ × Link)
with_after None to links = links
with_after (Some c) to links = change_at (λ l. record l { after = to }) links c

-- with another number before a child
abbrev pub with_before : Option ℕ → Option ℕ → List (ℕ × Link) → List (ℕ × Link)
with_before None to links = links
with_before (Some c) to links = change_at (λ l. record l { before = to }) links c

-- with another first child of a parent, where no child stands before
abbrev pub with_first : Option ℕ → ℕ → Option ℕ → List (ℕ × Ends) → List (ℕ × Ends)
with_first None parent to ends = change_at (λ e. record e { first = to }) ends parent
with_first (Some c) parent to ends = ends

-- with another last child of a parent, where no child stands behind
abbrev pub with_last_child : Option ℕ → ℕ → Option ℕ → List (ℕ × Ends) → List (ℕ × Ends)
with_last_child None parent to ends = change_at (λ e. record e { last = to }) ends parent
with_last_child (Some c) parent to ends = ends

-- with a whole link of a child
abbrev pub with_child_link : ℕ → Link → List (ℕ × Link) → List (ℕ × Link)
with_child_link child link links = change_at (λ _. link) links child

-- the child behind the one that may be there, else the first child of the parent
abbrev pub child_after : List (ℕ × Link) → List (ℕ × Ends) → Option ℕ → ℕ → Option ℕ
child_after links ends None parent = part_at first_in_ends ends parent
child_after links ends (Some c) parent = part_at after_of links c

-- the child in front of the one that may be there, else the last child of the parent
abbrev pub previous_of : List (ℕ × Link) → List (ℕ × Ends) → Option ℕ → ℕ → Option ℕ
previous_of links ends None parent = part_at last_in_ends ends parent
previous_of links ends (Some c) parent = part_at before_of links c
