-- How a table keeps its values: the pages of keys, over the slots of a slab.
use Rattle.std.specs.Prelude.{◌≡◌, ℕ, zero, suc, ◌+◌, ◌-◌, ◌*◌, ◌<◌, ◌≤◌, ◌^◌, List, [], ◌++◌, Option, Some, IsSome}
use Rattle.std.specs.Option.{option_map, option_and_then, option_to_list}
use Rattle.slab.specs.Slab.{Slab, get, HasRoomFor}
use Rattle.geo_slots.specs.Pages.{Pages, ArePages, key_at}

module _ {T : Type 0} where
  -- the row of a number, if it has a value
  abbrev pub row_of : (ℕ → Option T) → ℕ → List (ℕ × T)
  row_of values number = option_to_list (option_map (λ value. (number, value)) (values number))

  -- the rows of the numbers below one
  abbrev pub rows_below : (ℕ → Option T) → ℕ → List (ℕ × T)
  rows_below values zero = []
  rows_below values (suc number) = rows_below values number ++ row_of values number

  -- the value of a number is that of its key
  abbrev pub value_of : Slab T → Pages → ℕ → Option T
  value_of values pages number = option_and_then (get values) (key_at pages number)

  -- the rows of a table
  abbrev pub rows_of : Slab T → Pages → ℕ → List (ℕ × T)
  rows_of values pages next = rows_below (value_of values pages) next

  -- each key is one number's and has a value, and each number that room is reserved for has its page
  pub record IsIndex (pages : Pages) (end : ℕ) (values : Slab T) (next spare : ℕ) : Type 0 where
    pub pages_are : ArePages pages end next
    pub starts : 1 ≤ next
    pub from_1 : (n key : ℕ) → key_at pages n ≡ Some key → 1 ≤ n
    pub held : (n key : ℕ) → key_at pages n ≡ Some key → IsSome (get values key)
    pub apart : (n m key : ℕ) → key_at pages n ≡ Some key → key_at pages m ≡ Some key → n ≡ m
    pub paged : spare ≤ end * 64 - next
    pub room : HasRoomFor values spare
    pub numbers : next + spare < 2 ^ 64
