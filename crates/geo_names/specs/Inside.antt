-- What stands behind names: each name in use has an id, and its numbers are the children of the id.
use Rattle.std.specs.Prelude.{◌≡◌, ℕ, ◌+◌, ◌≤◌, min, Bool, List, [], Option, Some, None, IsSome, IsSomeAnd, map}
use Rattle.std.specs.List.{AllByRecursion}
use Rattle.std.specs.HashMap.{get, spare}
use Rattle.geo_slots.specs.Slots.{value_at}
use Rattle.geo_model.specs.Words.{same_name}
use Rattle.geo_names.specs.declared.key.Key.{Key}
use Rattle.geo_names.specs.declared.names.Inside.{Inside}
use Rattle.geo_names.specs.Names.{NamesView}

-- whether two keys are the same name
abbrev pub key_eq : Key → Key → Bool
key_eq a b = same_name a.0 b.0

-- the id of a name
abbrev pub id_of : Inside → List ℕ → Option ℕ
id_of n name = get key_eq n.ids (record { 0 = name })

-- the name of an id, or nothing
abbrev pub text_or : Option (List ℕ) → List ℕ
text_or None = []
text_or (Some name) = name

-- the name under which a number stands
abbrev pub text_of_number : List (ℕ × List ℕ) → Option ℕ → List ℕ
text_of_number texts None = []
text_of_number texts (Some id) = text_or (value_at texts id)

-- each number with its name
abbrev pub rows_of : List (ℕ × List ℕ) → List (ℕ × Option ℕ) → List (ℕ × List ℕ)
rows_of texts children = map (λ row. (row.0, text_of_number texts row.1)) children

-- each number with its name, of all that is kept
abbrev pub rows_inside : Inside → List (ℕ × List ℕ)
rows_inside n = rows_of n.texts.rows n.alike.children

-- for how many more names all parts have room
abbrev pub room_of : Inside → ℕ
room_of n = min (min (spare n.ids) n.texts.spare) (min n.alike.parent_room n.alike.child_room)

-- what contracts see
abbrev pub names_view : Inside → NamesView
names_view n = record { rows = rows_inside n; next = n.alike.next_child; room = room_of n }

-- room for all but one of so many ids, and for all of so many numbers
pub record HaveRooms (count : ℕ) (n : Inside) : Type 0 where
  pub ids : count ≤ spare n.ids + 1
  pub texts : count ≤ n.texts.spare + 1
  pub parents : count ≤ n.alike.parent_room + 1
  pub children : count ≤ n.alike.child_room

-- a number stands under an id that has a name
abbrev pub IsUnder : List (ℕ × List ℕ) → ℕ × Option ℕ → Type 0
IsUnder texts row = IsSomeAnd row.1 (λ id. IsSome (value_at texts id))

-- ids and names are each other's, the ids are the parents, and each number stands under one
pub record IsInside (n : Inside) : Type 0 where
  pub parents : n.alike.parents ≡ map (λ row. row.0) n.texts.rows
  pub next : n.alike.next_parent ≡ n.texts.next
  pub named : (name : List ℕ) (id : ℕ) → id_of n name ≡ Some id → value_at n.texts.rows id ≡ Some name
  pub back : (name : List ℕ) (id : ℕ) → value_at n.texts.rows id ≡ Some name → id_of n name ≡ Some id
  pub under : AllByRecursion (IsUnder n.texts.rows) n.alike.children
