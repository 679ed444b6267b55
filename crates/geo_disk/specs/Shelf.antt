-- What a shelf tells, and what its calls do to it.
use Rattle.std.specs.Prelude.{◌≡◌, ◌≢◌, ℕ, ◌*◌, ◌≤◌, List, ◌∷◌, [], ◌++◌, length, Option, Some, None, Result, Ok, Err, IfSome, IsSomeAnd, Bool, true, false}
use Rattle.geo_base.specs.Images.{Images, IsDiskSize}
use Rattle.geo_base.specs.Sectors.{joined_sectors, sectors_of}
use Rattle.geo_base.specs.declared.limits.TheConstants.{MAX_IMAGE_BYTES}
use Rattle.geo_disk.specs.Disk.{DiskView}
use Rattle.geo_disk.specs.Names.{names_without}
use Rattle.geo_disk.specs.Calls.{CallMade}
use Rattle.geo_disk.specs.declared.shelf.ShelfCall.{ShelfCall}
use Rattle.geo_disk.specs.declared.shelf.Taken.{Taken}
use Rattle.geo_disk.specs.declared.shelf.Taken.TheVariants.{Disk, Missing, BadSize}
use Rattle.geo_disk.specs.Counts.{counted_if}
use Rattle.geo_disk.specs.declared.shelf.ShelfFault.{ShelfFault}
use Rattle.geo_disk.specs.declared.shelf.ShelfFault.TheVariants.{Failed, NoMemory}
use Rattle.geo_disk.specs.declared.shelf.TakeAnswer.{TakeAnswer}
use Rattle.geo_disk.specs.declared.shelf.TakeAnswer.TheVariants as answers

-- a shelf at one moment. No count of it falls
pub record ShelfView : Type 0 where
  -- the bytes under each name, where the shelf tells them; under a name that is lent there are none
  pub told : Option Images
  -- the names that are lent, in the order in which they were taken
  pub lent : List (List ℕ)
  -- how many calls of the shelf failed; no call that went through counts
  pub faults : ℕ
  -- of each name, how many calls of its disk had failed when that was last offered back, be it taken back or not
  pub faults_of : List ℕ → ℕ
  -- how many takes of each name failed
  pub take_faults : List ℕ → ℕ
  -- how many gives of each name failed
  pub give_faults : List ℕ → ℕ
  -- of each name, what its disk had been asked, and what it had answered, when it was last offered back
  pub asked_of : List ℕ → List CallMade
  -- of each name, how many sectors its disk had when it was last offered back
  pub sectors_of : List ℕ → ℕ
  -- its takes, with their answers, and its gives, in order
  pub calls : List ShelfCall

-- a disk has sectors of the size that was asked for, one or more, and at most MAX_IMAGE_BYTES
pub record IsOfSize (sector bytes count : ℕ) : Type 0 where
  pub asked : bytes ≡ sector
  pub some : 1 ≤ count
  pub limited : count * bytes ≤ MAX_IMAGE_BYTES

-- a fact on what a shelf tells before and after a call; a shelf that doesn't tell goes on not telling
abbrev pub WhereBothTell : (Images → Images → Type 0) → Option Images → Option Images → Type 0
WhereBothTell P None None = Unit {0}
WhereBothTell P (Some old) (Some new) = P old new
WhereBothTell P None (Some new) = ⊥
WhereBothTell P (Some old) None = ⊥

-- each name has what it had
abbrev pub IsAsBefore : Images → Images → Type 0
IsAsBefore old new = (name : List ℕ) → new name ≡ old name

-- a disk was taken: it has the bytes of the name, under which nothing is any more; each other name has what it had
pub record IsTakenFrom (name : List ℕ) (sector : ℕ) (held : Option (List (List ℕ))) (old new : Images) : Type 0 where
  pub bytes : IsSomeAnd (old name) (λ bytes. IsDiskSize sector (length bytes) × (held ≡ Some (sectors_of sector bytes)))
  pub gone : new name ≡ None
  pub others : (other : List ℕ) → other ≢ name → new other ≡ old other

-- a disk was given back: the name has its bytes, where it tells them; each other name has what it had
pub record IsGivenTo (name : List ℕ) (held : Option (List (List ℕ))) (old new : Images) : Type 0 where
  pub bytes : IfSome held (λ sectors. new name ≡ Some (joined_sectors sectors))
  pub others : (other : List ℕ) → other ≢ name → new other ≡ old other

-- the shelf has no such name
abbrev pub WasMissing : List ℕ → Images → Images → Type 0
WasMissing name old new = (old name ≡ None) × IsAsBefore old new

-- what the shelf has under the name isn't whole sectors, or is too long
abbrev pub IsOfBadSize : List ℕ → ℕ → Images → Images → Type 0
IsOfBadSize name sector old new = IsSomeAnd (old name) (λ bytes. IsDiskSize sector (length bytes) → ⊥)
    × IsAsBefore old new

-- a fact on the disk, if one was taken
abbrev pub IfTaken : {D : Type 0} → Result (Taken D) ShelfFault → (D → Type 0) → Type 0
IfTaken (Ok (Disk d)) P = P d
IfTaken (Ok Missing) P = Unit {0}
IfTaken (Ok BadSize) P = Unit {0}
IfTaken (Err _) P = Unit {0}

-- a fact for each answer of `take`, where the last is that of both faults
abbrev pub MatchTaken : {D : Type 0} → Result (Taken D) ShelfFault → (D → Type 0) → Type 0 → Type 0 → Type 0 → Type 0
MatchTaken (Ok (Disk d)) disk missing bad fault = disk d
MatchTaken (Ok Missing) disk missing bad fault = missing
MatchTaken (Ok BadSize) disk missing bad fault = bad
MatchTaken (Err _) disk missing bad fault = fault

-- what `take` does to what a shelf tells
abbrev pub TakesFromShelf : {D : Type 0} → (D → DiskView) → List ℕ → ℕ → Result (Taken D) ShelfFault
    → Option Images → Option Images → Type 0
TakesFromShelf view name sector result old new =
    MatchTaken result
    (λ d. WhereBothTell (IsTakenFrom name sector (view d).held) old new)
    (WhereBothTell (WasMissing name) old new)
    (WhereBothTell (IsOfBadSize name sector) old new)
    (WhereBothTell IsAsBefore old new)

-- the names that are lent after a call of `take`
abbrev pub lent_by : {D : Type 0} → Result (Taken D) ShelfFault → List ℕ → List (List ℕ) → List (List ℕ)
lent_by (Ok (Disk d)) name lent = lent ++ name ∷ []
lent_by (Ok Missing) name lent = lent
lent_by (Ok BadSize) name lent = lent
lent_by (Err _) name lent = lent

-- what `give` does to what a shelf tells
abbrev pub GivesToShelf : {E : Type 0} → Option (List (List ℕ)) → List ℕ → Result (Unit {0}) E → Option Images
    → Option Images → Type 0
GivesToShelf held name (Ok _) old new = WhereBothTell (IsGivenTo name held) old new
GivesToShelf held name (Err _) old new = WhereBothTell IsAsBefore old new

-- the names that are lent after a call of `give`
abbrev pub lent_without : {E : Type 0} → Result (Unit {0}) E → List ℕ → List (List ℕ) → List (List ℕ)
lent_without (Ok _) name lent = names_without name lent
lent_without (Err _) name lent = lent

-- a disk that is offered back brings what is known of its name; what is known of others stays
pub record IsBrought {X : Type 0} (name : List ℕ) (known : X) (old new : List ℕ → X) : Type 0 where
  pub own : new name ≡ known
  pub others : (other : List ℕ) → other ≢ name → new other ≡ old other

-- the answer of `take` without the disk
abbrev pub answer_of : {D : Type 0} → Result (Taken D) ShelfFault → TakeAnswer
answer_of (Ok (Disk d)) = answers.Disk
answer_of (Ok Missing) = answers.Missing
answer_of (Ok BadSize) = answers.BadSize
answer_of (Err Failed) = answers.Failed
answer_of (Err NoMemory) = answers.NoMemory

-- whether the answer of `take` is a failure of the shelf
abbrev pub is_failure : ShelfFault → Bool
is_failure Failed = true
is_failure NoMemory = false

abbrev pub is_take_failed : {D : Type 0} → Result (Taken D) ShelfFault → Bool
is_take_failed (Ok taken) = false
is_take_failed (Err fault) = is_failure fault

-- a call of a name counts for it where it failed, and for no other name
pub record CountsCall (failed : Bool) (name : List ℕ) (old new : List ℕ → ℕ) : Type 0 where
  pub own : new name ≡ counted_if failed (old name)
  pub others : (other : List ℕ) → other ≢ name → new other ≡ old other

-- a fact wherever no disk was taken
abbrev pub UnlessTaken : {D : Type 0} → Result (Taken D) ShelfFault → Type 0 → Type 0
UnlessTaken (Ok (Disk d)) P = Unit {0}
UnlessTaken (Ok Missing) P = P
UnlessTaken (Ok BadSize) P = P
UnlessTaken (Err _) P = P
