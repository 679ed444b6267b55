-- What is kept beside the bios, so that nothing has to be searched.
use Rattle.std.specs.Prelude.{◌≡◌, ℕ, ◌+◌, ◌<◌, ◌^◌, ◌==◌, nat_le, min, Bool, true, false, not, ◌&&◌, List, length, filter, find, Option, Some}
use Rattle.std.specs.Option.{option_map, option_map_or}
use Rattle.geo_model.specs.declared.step.Phase.{Phase}
use Rattle.geo_model.specs.declared.step.Owner.{Owner}
use Rattle.geo_model.specs.declared.step.Owner.TheVariants as owners
use Rattle.geo_model.specs.World.{BioOf, children_among, is_down, is_sent, is_busy, is_up}
use Rattle.geo_bio.specs.declared.bio.Held.{Held}
use Rattle.geo_bio.specs.declared.bio.Risen.{Risen}
use Rattle.geo_bio.specs.declared.bio.Risen.TheVariants as risen
use Rattle.geo_bio.specs.BioTable.{BioTableView, AreInOrder}
use Rattle.geo_state.specs.declared.cursor.Cursor.{Cursor}
use Rattle.geo_state.specs.declared.cursor.Due.{Due}
use Rattle.geo_state.specs.declared.cursor.Due.TheVariants as dues
use Rattle.geo_state.specs.Traffic.{first_in, count_in}

-- whether a phase is the one that waits for a Start, a Take or an Up
abbrev pub is_due : Due → Phase → Bool
is_due dues.Start = is_down
is_due dues.Take = is_sent
is_due dues.Up = is_up

-- the bios but the one of a number
abbrev pub others : {R : Type 0} → ℕ → List (BioOf R) → List (BioOf R)
others n bios = filter (λ x. not (x.number == n)) bios

-- the least number, from one on, of a bio whose phase passes
abbrev pub first_from : {R : Type 0} → (Phase → Bool) → List (BioOf R) → ℕ → Option ℕ
first_from test bios low =
    option_map (λ x. x.number) (find (λ x. nat_le low x.number && test x.phase) bios)

-- a cursor counts the bios whose phase passes, and knows the first of them
pub record IsCursor (test : Phase → Bool) (bios : List (BioOf Held)) (c : Cursor) : Type 0 where
  pub count : c.count ≡ count_in test bios
  pub first : c.first ≡ first_in test bios

-- the cursor with one more bio, of this number
abbrev pub with_one : Cursor → ℕ → Cursor
with_one c n = record { count = c.count + 1; first = Some (option_map_or (λ m. min m n) c.first n) }

-- the cursor with so many more bios, whose numbers follow each other from one on that is above all others
abbrev pub with_last : Cursor → ℕ → ℕ → Cursor
with_last c n count = record { count = c.count + count; first = Some (option_map_or (λ m. m) c.first n) }

-- what becomes of the cursor of those that are Up, by what is told of a bio that went up: a complete parent is Up
abbrev pub up_after : Cursor → Risen → Cursor
up_after c (risen.InParent parent true) = with_one c parent
up_after c _ = c

-- how many children wait for the parent that a bio has, if it is a child
abbrev pub family_size : {R : Type 0} → List (BioOf R) → Owner → ℕ
family_size bios (owners.Child parent index) = length (children_among bios parent)
family_size bios _ = 0

-- how many bios are gone, by what is told: a root, or the children of a parent that is complete
abbrev pub gone_by : ℕ → Risen → ℕ
gone_by family (risen.Root got) = 1
gone_by family (risen.InParent parent true) = family
gone_by family (risen.InParent parent false) = 0

-- the cursors are those of the three phases in which a bio waits for a step; the Busy ones, and all, are counted
pub record IsCounted (bios : List (BioOf Held)) (down sent up : Cursor) (busy live : ℕ) : Type 0 where
  pub starts : IsCursor is_down bios down
  pub takes : IsCursor is_sent bios sent
  pub ups : IsCursor is_up bios up
  pub taken : busy ≡ count_in is_busy bios
  pub all : live ≡ length bios

-- the bios of a table stand in order, below a next number of 64 bits, and are counted so
pub record IsKept (t : BioTableView) (down sent up : Cursor) (busy live : ℕ) : Type 0 where
  pub in_order : AreInOrder t
  pub bound : t.next < 2 ^ 64
  pub counted : IsCounted t.bios down sent up busy live
