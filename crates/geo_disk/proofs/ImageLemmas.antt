-- The bytes under the names of a shelf in memory, as disks are taken and given back.
use Rattle.std.proofs.Common.{◌≡◌, ◌≢◌, ℕ, Bool, true, false, List, [], ◌∷◌, ◌++◌, length, Option, Some, None, bytes_eq, ◌||◌, cond, refl, ◌∙◌, sym, inl, inr, ◌<◌, ◌≤◌, ◌*◌, ◌/◌, set, Contains, zero, suc, arith}
use Rattle.std.proofs.Math.Bool.{or-false, or-true}
use Rattle.std.proofs.lemmas.Bool.{false_from_ne_true}
use Rattle.std.specs.Option.{option_map}
use Rattle.geo_base.proofs.Tests.{bytes_eq-same, bytes_eq-other, same_or_other}
use Rattle.geo_base.specs.Sectors.{sectors_of, IsSectorSize}
use Rattle.geo_disk.specs.Names.{is_among, names_without}
use Rattle.geo_disk.specs.Memory.{Memory}
use Rattle.geo_disk.specs.MemShelf.{HasSlots, emptied_slot, image_in, kept_slot, slot_of}
use Rattle.geo_base.specs.Images.{IsDiskSize}
use Rattle.geo_disk.specs.Shelf.{IsGivenTo, IsOfSize, IsTakenFrom}
use Rattle.geo_disk.proofs.SectorLemmas.{sectors_length}
use Rattle.std.proofs.Math.Nat.{mul_comm, zero-mul}
use Rattle.geo_disk.specs.declared.mem_shelf.Slot.{Slot}
use Rattle.geo_disk.proofs.NameLemmas.{IsPlace, among-push, among-without, Contains-from_among, named-set_same, named-set_other, named-push_same, named-push_other, set_keeps}

-- under a name that is lent there is nothing
pub image_lent : (slots : List Slot) (lent : List (List ℕ)) (name : List ℕ) → is_among name lent ≡ true
    → image_in slots lent name ≡ None
image_lent slots lent name is = rw is refl

-- under a name that isn't lent there are the bytes of its place
pub image_there : (slots : List Slot) (lent : List (List ℕ)) (name : List ℕ) (slot : Slot)
    → is_among name lent ≡ false → slot_of slots name ≡ Some slot → image_in slots lent name ≡ Some slot.bytes
image_there slots lent name slot here is = rw (here, is) refl

-- a chosen nothing
neither : (b : Bool) → ◌≡◌ {A = Option (List ℕ)} (cond b None None) None
neither true = refl
neither false = refl

-- a name without a place has nothing
pub image_none : (slots : List Slot) (lent : List (List ℕ)) (name : List ℕ) → slot_of slots name ≡ None
    → image_in slots lent name ≡ None
image_none slots lent name none = rw none (neither (is_among name lent))

-- a name whose place and whose lending are as before has what it had
pub image_same : (slots news : List Slot) (lent after : List (List ℕ)) (name : List ℕ)
    → is_among name after ≡ is_among name lent → slot_of news name ≡ slot_of slots name
    → image_in news after name ≡ image_in slots lent name
image_same slots news lent after name lent_is slot_is = rw (lent_is, slot_is) refl

-- bytes that a place has aren't none
has_bytes : (o : Option Slot) → option_map (λ (slot : Slot). slot.bytes) o ≡ None → o ≡ None
has_bytes None is = refl
has_bytes (Some slot) is = cc

-- a name that is neither lent nor on the shelf has no place
pub no_slot : (slots : List Slot) (lent : List (List ℕ)) (name : List ℕ) → (Contains lent name → ⊥)
    → image_in slots lent name ≡ None → slot_of slots name ≡ None
no_slot slots lent name not_lent none =
    let here : is_among name lent ≡ false =
    false_from_ne_true (is_among name lent) (λ is. not_lent (Contains-from_among name lent is)) in
    has_bytes (slot_of slots name) (rw here at none)

-- other names aren't lent by a push
other_lent : (lent : List (List ℕ)) (name other : List ℕ) → other ≢ name
    → is_among other (lent ++ name ∷ []) ≡ is_among other lent
other_lent lent name other apart = among-push other name lent
    ∙ rw (bytes_eq-other other name apart) (or-false (is_among other lent))

-- other names stay lent when one is given back
other_stays : (lent : List (List ℕ)) (name other : List ℕ) → other ≢ name
    → is_among other (names_without name lent) ≡ is_among other lent
other_stays lent name other apart = among-without other name lent
    ∙ rw (bytes_eq-other name other (λ e. apart (sym e))) refl

-- a name that was given back isn't lent
given_back : (lent : List (List ℕ)) (name : List ℕ) → is_among name (names_without name lent) ≡ false
given_back lent name = among-without name name lent ∙ rw (bytes_eq-same name) refl

-- a name that was pushed is lent
pushed_lent : (lent : List (List ℕ)) (name : List ℕ) → is_among name (lent ++ name ∷ []) ≡ true
pushed_lent lent name = among-push name name lent ∙ rw (bytes_eq-same name) (or-true (is_among name lent))

-- what a shelf has after a disk was taken out of its place
pub after_take : (slots : List Slot) (lent : List (List ℕ)) (name : List ℕ) (sector at : ℕ) (slot : Slot)
    → IsPlace (λ (x : Slot). x.name) name slots at → is_among name lent ≡ false
    → slot_of slots name ≡ Some slot → IsDiskSize sector (length slot.bytes)
    → IsTakenFrom name sector (Some (sectors_of sector slot.bytes)) (image_in slots lent)
    (image_in (set slots at (emptied_slot name)) (lent ++ name ∷ []))
after_take slots lent name sector at slot place here is fits = record {
  bytes = rw (image_there slots lent name slot here is) (fits, refl);
  gone = image_lent (set slots at (emptied_slot name)) (lent ++ name ∷ []) name (pushed_lent lent name);
  others = λ other apart. image_same slots (set slots at (emptied_slot name)) lent (lent ++ name ∷ []) other
      (other_lent lent name other apart)
      (named-set_other (λ (x : Slot). x.name) name other slots at (emptied_slot name) place refl apart);
}

-- each lent name has its place after a disk was taken
pub slots_after_take : (slots : List Slot) (lent : List (List ℕ)) (name : List ℕ) (at : ℕ)
    → IsPlace (λ (x : Slot). x.name) name slots at → HasSlots lent slots
    → HasSlots (lent ++ name ∷ []) (set slots at (emptied_slot name))
slots_after_take slots lent name at place had other among =
    let one : (is_among other lent || bytes_eq other name) ≡ true = sym (among-push other name lent) ∙ among in
    elim (same_or_other other name) [
      | inl same ↦ rw (same, named-set_same (λ (x : Slot). x.name) name slots at (emptied_slot name) place refl) refl
      | inr apart ↦ set_keeps (λ (x : Slot). x.name) name other slots at (emptied_slot name) place refl
          (had other (sym (other_lent lent name other apart) ∙ among))
    ]

-- what a shelf has after a disk came back
pub after_give : (slots news : List Slot) (lent : List (List ℕ)) (name : List ℕ) (disk : Memory)
    → slot_of news name ≡ Some (kept_slot name disk)
    → ((other : List ℕ) → other ≢ name → slot_of news other ≡ slot_of slots other)
    → IsGivenTo name (Some disk.sectors) (image_in slots lent) (image_in news (names_without name lent))
after_give slots news lent name disk here others = record {
  bytes = image_there news (names_without name lent) name (kept_slot name disk) (given_back lent name) here;
  others = λ other apart. image_same slots news lent (names_without name lent) other (other_stays lent name other apart)
      (others other apart);
}

-- each lent name has its place after a disk came back
pub slots_after_give : (slots news : List Slot) (lent : List (List ℕ)) (name : List ℕ) (slot : Slot)
    → slot_of news name ≡ Some slot → ((other : List ℕ) → other ≢ name → slot_of news other ≡ slot_of slots other)
    → HasSlots lent slots → HasSlots (names_without name lent) news
slots_after_give slots news lent name slot here others had other among =
    elim (same_or_other other name) [
      | inl same ↦ rw (same, here) refl
      | inr apart ↦ rw (others other apart) (had other (sym (other_stays lent name other apart) ∙ among))
    ]

-- what a shelf has after bytes were put under a new name
pub after_put : (slots : List Slot) (lent : List (List ℕ)) (slot : Slot) → (Contains lent slot.name → ⊥)
    → image_in slots lent slot.name ≡ None → image_in (slots ++ slot ∷ []) lent slot.name ≡ Some slot.bytes
after_put slots lent slot not_lent none =
    let here : is_among slot.name lent ≡ false =
    false_from_ne_true (is_among slot.name lent) (λ is. not_lent (Contains-from_among slot.name lent is)) in
    image_there (slots ++ slot ∷ []) lent slot.name slot here
    (named-push_same (λ (x : Slot). x.name) slot.name slots slot (no_slot slots lent slot.name not_lent none) refl)

-- and the other names have what they had
pub others_after_put : (slots : List Slot) (lent : List (List ℕ)) (slot : Slot) (other : List ℕ) → other ≢ slot.name
    → image_in (slots ++ slot ∷ []) lent other ≡ image_in slots lent other
others_after_put slots lent slot other apart =
    image_same slots (slots ++ slot ∷ []) lent lent other refl
    (named-push_other (λ (x : Slot). x.name) other slots slot apart)

-- some bytes in sectors are some sectors
some_sector : (size count bytes : ℕ) → bytes ≡ count * size → 1 ≤ bytes → 1 ≤ count
some_sector size zero bytes is some = absurd (omega (arith, zero-mul size))
some_sector size (suc count) bytes is some = omega arith

-- bytes of a disk's size are a disk of a right size
pub size_of_disk : (sector : ℕ) (bytes : List ℕ) → 0 < sector → IsDiskSize sector (length bytes)
    → IsOfSize sector sector (length (sectors_of sector bytes))
size_of_disk sector bytes some fits =
    let count : ℕ = length bytes / sector in
    let all : length bytes ≡ count * sector = omega (arith, fits.whole, mul_comm sector (length bytes / sector)) in
    record {
      asked = refl;
      some = rw (sectors_length sector bytes) (some_sector sector count (length bytes) all fits.some);
      limited = rw (sectors_length sector bytes) (omega (arith, fits.limited, all));
    }

-- a sector has some bytes
pub some_bytes : (sector : ℕ) → IsSectorSize sector → 0 < sector
some_bytes sector is = elim is [ inl short ↦ omega arith | inr long ↦ omega arith ]
