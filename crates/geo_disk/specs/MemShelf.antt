-- A shelf in memory as contracts see it.
use Rattle.std.specs.Prelude.{◌≡◌, ℕ, Bool, List, [], ◌∷◌, ◌++◌, slice_index_or, Option, Some, None, true, is_some, if◌then◌else◌, bytes_eq, refl, Contains}
use Rattle.std.specs.Cmp.{IsEquivalence}
use Rattle.std.specs.Option.{option_map}
use Rattle.std.proofs.Common.{ap, sym}
use Rattle.std.proofs.lemmas.Bool.Decides.{same_from_decides}
use Rattle.std.proofs.lemmas.Map.Views.{list_any-from_Contains}
use Rattle.std.proofs.lemmas.Slice.Eq.{bytes_eq-Decides}
use Rattle.geo_base.specs.Sectors.{joined_sectors, sectors_of}
use Rattle.geo_disk.specs.Counts.{counted_if, counted_on}
use Rattle.geo_disk.specs.Lending.{Loans, faults_of, give_faults_of, returned_asked, returned_sectors, take_faults_of}
use Rattle.geo_disk.specs.Memory.{Memory}
use Rattle.geo_disk.specs.Names.{is_among, named}
use Rattle.geo_disk.specs.Shelf.{ShelfView}
use Rattle.geo_disk.specs.Calls.{CallMade}
use Rattle.geo_disk.specs.declared.mem_shelf.Slot.{Slot}
use Rattle.geo_disk.specs.declared.shelf.ShelfCall.{ShelfCall}

-- the test of names is an equivalence
same_names : IsEquivalence bytes_eq
same_names = record {
  refl = λ a. (bytes_eq-Decides a a).1 refl;
  symm = λ a b. same_from_decides (bytes_eq a b) (bytes_eq b a) (bytes_eq-Decides a b)
      ((λ e. sym ((bytes_eq-Decides b a).0 e)), (λ e. (bytes_eq-Decides b a).1 (sym e)));
  congr = λ a b q e. ap (λ n. bytes_eq n q) ((bytes_eq-Decides a b).0 e);
}

-- what a shelf in memory is
pub record Store : Type 0 where
  -- the places of its names, and what is lent
  pub slots : List Slot
  pub loans : Loans
  -- the numbers of the calls that are to fail, how many calls there were, and how many failed
  pub fails : List ℕ
  pub calls : ℕ
  pub faults : ℕ
  -- what the calls were, in order
  pub asked : List ShelfCall

-- a place whose disk was taken out
abbrev pub emptied_slot : List ℕ → Slot
emptied_slot name = record { name = name; bytes = []; fails = []; calls = 0; part = 0 }

-- a place by its number
abbrev pub slot_at : List Slot → ℕ → Slot
slot_at slots at = slice_index_or slots at (emptied_slot [])

-- the disk of a place, which failed so often and was asked this before
abbrev pub disk_of_slot : ℕ → ℕ → List CallMade → Slot → Memory
disk_of_slot sector faults asked slot = record {
  sector = sector;
  sectors = sectors_of sector slot.bytes;
  fails = slot.fails;
  calls = slot.calls;
  faults = faults;
  part = slot.part;
  asked = asked;
}

-- the place of a disk that came back
abbrev pub kept_slot : List ℕ → Memory → Slot
kept_slot name disk = record {
  name = name;
  bytes = joined_sectors disk.sectors;
  fails = disk.fails;
  calls =
      disk.calls;
  part = disk.part;
}

-- the place of a name
abbrev pub slot_of : List Slot → List ℕ → Option Slot
slot_of slots name = named (λ slot. slot.name) name slots

-- the bytes under a name: none where it is lent
abbrev pub image_in : List Slot → List (List ℕ) → List ℕ → Option (List ℕ)
image_in slots lent name = if is_among name lent then None else option_map (λ slot. slot.bytes) (slot_of slots name)

-- the bytes under each name of a shelf
abbrev pub images_of : Store → List ℕ → Option (List ℕ)
images_of s name = image_in s.slots s.loans.lent name

-- a shelf in memory tells what it has
abbrev pub shelf_view : Store → ShelfView
shelf_view s = record {
  told = Some (images_of s);
  lent = s.loans.lent;
  faults = s.faults;
  faults_of = faults_of s.loans;
  take_faults = take_faults_of s.loans;
  give_faults = give_faults_of s.loans;
  asked_of = returned_asked s.loans;
  sectors_of = returned_sectors s.loans;
  calls = s.asked;
}

-- each name that is lent has its place
abbrev pub HasSlots : List (List ℕ) → List Slot → Type 0
HasSlots lent slots = (name : List ℕ) → is_among name lent ≡ true → is_some (slot_of slots name) ≡ true

-- under a name that is lent there is nothing
pub lent_has_nothing : (s : Store) (name : List ℕ) → Contains s.loans.lent name → images_of s name ≡ None
lent_has_nothing s name one = rw (list_any-from_Contains same_names name s.loans.lent one) refl

-- the shelf with one more place
abbrev pub with_slot : Store → Slot → Store
with_slot s slot = record s { slots = s.slots ++ slot ∷ [] }

-- the shelf after one more call was counted, which is to fail or isn't
abbrev pub shelf_called : Bool → Store → Store
shelf_called failed s = record s { calls = counted_on s.calls; faults = counted_if failed s.faults }

-- no call was counted, and those that are to fail are the same
pub record AreSameCalls (old new : Store) : Type 0 where
  pub fails : new.fails ≡ old.fails
  pub calls : new.calls ≡ old.calls
  pub faults : new.faults ≡ old.faults
  pub asked : new.asked ≡ old.asked
