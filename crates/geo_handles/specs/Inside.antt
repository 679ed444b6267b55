-- What stands behind handles: a table, two maps that find its numbers by keys, and the numbers that can be reaped.
use Rattle.std.specs.Prelude.{◌≡◌, ℕ, min, Bool, true, List, Option, None, length, map}
use Rattle.std.specs.Option.{option_and_then, is_some}
use Rattle.std.specs.HashMap.{spare}
use Rattle.geo_slots.specs.Slots.{IsRising, value_at}
use Rattle.geo_family.specs.Family.{is_parent, names}
use Rattle.geo_model.specs.World.{Handle}
use Rattle.geo_handles.specs.declared.records.HandleRec.{HandleRec}
use Rattle.geo_handles.specs.declared.handles.Inside.{Inside}
use Rattle.geo_handles.specs.Keys.{name_key, consumer_key, number_of_key, number_of_consumer, IsFinder}
use Rattle.geo_handles.specs.Handles.{HandlesView, handle_seen}

-- the handle of a row
abbrev pub handle_row : ℕ × HandleRec → Handle
handle_row row = handle_seen row.0 row.1

-- a handle that is dead
abbrev pub dead_one : HandleRec → HandleRec
dead_one x = record x { dead = true }

-- a handle without a consumer
abbrev pub reaped_one : HandleRec → HandleRec
reaped_one x = record x { consumer = None }

-- a number with whether it is a child of parent 1, as those that can be reaped are
abbrev pub ready_row : ℕ × Option ℕ → ℕ × Bool
ready_row row = (row.0, names row.1 1)

-- the key of a number
abbrev pub handle_key : {K : Type 0} → (HandleRec → Option K) → List (ℕ × HandleRec) → ℕ → Option K
handle_key key rows n = option_and_then key (value_at rows n)

-- for how many more handles all parts have room
abbrev pub handle_room : Inside → ℕ
handle_room n = min (min (spare n.names) (spare n.consumers)) (min n.table.spare n.ready.child_room)

-- what contracts see
abbrev pub handles_of : Inside → HandlesView
handles_of n =
    record {
      handles = map handle_row n.table.rows;
      next = n.table.next;
      ready = map ready_row n.ready.children;
      room = handle_room n;
    }

-- both maps find what the table has, the children are numbered as the handles are, and the handles are counted
pub record IsInside (n : Inside) : Type 0 where
  pub rising : IsRising 1 n.table.rows n.table.next
  pub named : IsFinder (handle_key name_key n.table.rows) (number_of_key n.names)
  pub held : IsFinder (handle_key consumer_key n.table.rows) (number_of_consumer n.consumers)
  pub stands : is_parent n.ready.parents 1 ≡ true
  pub alike : (k : ℕ) → is_some (value_at n.ready.children k) ≡ is_some (value_at n.table.rows k)
  pub next : n.ready.next_child ≡ n.table.next
  pub live : n.live ≡ length n.table.rows
