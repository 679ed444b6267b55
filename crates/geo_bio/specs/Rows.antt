-- The bios of a table, row by row, and the families in which they stand.
use Rattle.std.specs.Prelude.{◌≡◌, ℕ, ◌+◌, ◌^◌, ◌<◌, ◌==◌, Bool, true, cond, List, [], ◌∷◌, length, filter_map, count_by, Option, Some, None}
use Rattle.std.specs.Bool.{MatchBool}
use Rattle.geo_model.specs.declared.step.Owner.{Owner}
use Rattle.geo_model.specs.declared.step.Owner.TheVariants as owners
use Rattle.geo_model.specs.declared.step.Phase.{Phase}
use Rattle.geo_model.specs.declared.step.Phase.TheVariants as phases
use Rattle.geo_model.specs.World.{BioOf, is_done, is_waiting}
use Rattle.geo_slots.specs.Slots.{IsRising, value_at}
use Rattle.geo_bio.specs.declared.bio.Bio.{Bio}
use Rattle.geo_bio.specs.declared.bio.Held.{Held}

-- a bio as the definitions of the mesh have it
abbrev pub as_bio : ℕ → Bio → BioOf Held
as_bio number x = record {
  number = number;
  cmd = x.cmd;
  offset = x.span.offset;
  len = x.span.len;
  bytes = x.bytes;
  source = x.«from»;
  target = x.to;
  owner = x.owner;
  phase = x.phase;
  result = x.held;
}

abbrev pub seen_row : ℕ × Bio → BioOf Held
seen_row row = as_bio row.0 row.1

-- the bio in another phase
abbrev pub at_phase : Phase → Bio → Bio
at_phase phase x = record x { phase = phase }

-- the bio in phase Up, with what it holds
abbrev pub up_holding : Held → Bio → Bio
up_holding held x = record x { phase = phases.Up; held = Some held }

-- a child in a family: its number, its place and whether it is Done
pub record Child : Type 0 where
  pub number : ℕ
  pub place : ℕ
  pub done : Bool

-- the row as a child of a bio, if it is one
abbrev pub child_of : ℕ → ℕ → Bool → Owner → Option Child
child_of parent number done (owners.Child p index) =
    cond (p == parent) (Some (record { number = number; place = index; done = done })) None
child_of parent number done _ = None

-- the children of a bio, in order
abbrev pub family : List (ℕ × Bio) → ℕ → List Child
family rows parent = filter_map (λ row. child_of parent row.0 (is_done row.1.phase) row.1.owner) rows

-- the numbers of the children follow each other from the first on, and so do their places
abbrev pub FollowFrom : ℕ → ℕ → List Child → Type 0
FollowFrom first place [] = Unit {0}
FollowFrom first place (x ∷ xs) = (x.number ≡ first) × ((x.place ≡ place) × FollowFrom (first + 1) (place + 1) xs)

-- a bio that was split knows its children and counts those that are Done
pub record IsSplitInto (children : List Child) (x : Bio) : Type 0 where
  pub follow : FollowFrom x.first_child 0 children
  pub count : length children ≡ x.children
  pub finished : count_by (λ c. c.done) children ≡ x.finished
  pub few : x.children < 2 ^ 32

-- a Waiting bio has the children that it was split into, and another has none
abbrev pub HasFamily : List Child → Bio → Type 0
HasFamily children x = MatchBool (is_waiting x.phase) (IsSplitInto children x) (children ≡ [])

-- the bio is there and Waiting
abbrev pub WaitsIn : List (ℕ × Bio) → ℕ → Type 0
WaitsIn rows number = (x : Bio) × (value_at rows number ≡ Some x) × (is_waiting x.phase ≡ true)

-- the rows stand in order; each bio has its family; each child's parent waits for it
pub record IsTable (rows : List (ℕ × Bio)) (next : ℕ) : Type 0 where
  pub rising : IsRising 1 rows next
  pub families : (number : ℕ) (x : Bio) → value_at rows number ≡ Some x → HasFamily (family rows number) x
  pub parents : (number : ℕ) (x : Bio) (parent index : ℕ) → value_at rows number ≡ Some x
      → x.owner ≡ owners.Child parent index → WaitsIn rows parent

-- the children of a bio, seen by contracts: their numbers follow each other from the first on, and so do their places
abbrev pub StandFrom : ℕ → ℕ → ℕ → List (BioOf Held) → Type 0
StandFrom parent first place [] = Unit {0}
StandFrom parent first place (x ∷ xs) =
    (x.number ≡ first) × ((x.owner ≡ owners.Child parent place) × StandFrom parent (first + 1) (place + 1) xs)

-- a bio knows where its children stand, how many they are, and how many of them are Done
pub record KnowsChildren (number : ℕ) (children : List (BioOf Held)) (x : Bio) : Type 0 where
  pub stand : StandFrom number x.first_child 0 children
  pub all : x.children ≡ length children
  pub done : x.finished ≡ count_by (λ c. is_done c.phase) children
