-- What becomes of a shelf whose disks are taken for a plan and given back.
use Rattle.std.specs.Prelude.{◌≡◌, ◌≢◌, ◌⊎◌, ℕ, ◌≤◌, List, [], ◌∷◌, ◌++◌, length, map, Option, Some, None, Bool, true, false, Contains, IfSome, IsSomeAnd, ⊤}
use Rattle.geo_base.specs.Faults.{Rose}
use Rattle.geo_base.specs.Images.{IsDiskSize}
use Rattle.geo_base.specs.Sectors.{zero_sectors}
use Rattle.geo_disk.specs.Disk.{DiskView}
use Rattle.geo_disk.specs.Memory.{Memory}
use Rattle.geo_disk.specs.declared.drive.Drive.TheVariants.{Shelved}
use Rattle.geo_disk.specs.declared.shelf.ShelfCall.TheVariants as shelf_calls
use Rattle.geo_disk.specs.declared.shelf.TakeAnswer.{TakeAnswer}
use Rattle.geo_disk.specs.declared.shelf.TakeAnswer.TheVariants as answers
use Rattle.geo_disk.specs.Names.{names_without}
use Rattle.geo_disk.specs.Shelf.{WhereBothTell, IsTakenFrom, IsGivenTo, IsAsBefore, IsBrought, IsOfSize, CountsCall}
use Rattle.geo_model.specs.declared.command.DiskDecl.{DiskDecl}
use Rattle.geo_model.specs.declared.command.DiskKind.{DiskKind}
use Rattle.geo_model.specs.declared.command.DiskKind.TheVariants as disk_kinds
use Rattle.geo_headline.specs.Outside.{ShelfView}
use Rattle.geo_run.specs.Drives.{DriveView, drive_kind, drive_view, fails_of}
use Rattle.geo_run.specs.declared.stop.Stop.{Stop}
use Rattle.geo_run.specs.declared.stop.Stop.TheVariants as stops

-- One disk is taken

-- nothing that is known of a name changed
pub record SameCounts (before after : ShelfView) : Type 0 where
  pub disks : (name : List ℕ) → after.faults_of name ≡ before.faults_of name
  pub takes : (name : List ℕ) → after.take_faults name ≡ before.take_faults name
  pub gives : (name : List ℕ) → after.give_faults name ≡ before.give_faults name
  pub asked : (name : List ℕ) → after.asked_of name ≡ before.asked_of name
  pub sectors : (name : List ℕ) → after.sectors_of name ≡ before.sectors_of name

-- the disk of a declaration was taken from the shelf, and is this drive
pub record TakesDisk (before : ShelfView) (d : DiskDecl) (x : DriveView) (after : ShelfView) : Type 0 where
  pub kind : drive_kind x ≡ disk_kinds.Shelf
  pub told : WhereBothTell (IsTakenFrom d.name d.sector x.held) before.told after.told
  pub counted : IfSome x.held (λ sectors. length sectors ≡ x.count)
  pub not_lent : Contains before.lent d.name → ⊥
  pub size : IsOfSize d.sector x.sector x.count
  pub brought : x.faults ≡ before.faults_of d.name
  pub asked : x.asked ≡ before.asked_of d.name
  pub lent : after.lent ≡ before.lent ++ d.name ∷ []
  pub counts : SameCounts before after
  pub no_fault : after.faults ≡ before.faults
  pub called : after.calls ≡ before.calls ++ shelf_calls.Take d.name answers.Disk ∷ []

-- a disk in memory, of zeros, none of whose calls is to fail
pub record IsMade (d : DiskDecl) (x : DriveView) : Type 0 where
  pub kind : drive_kind x ≡ disk_kinds.Ram
  pub sector : x.sector ≡ d.sector
  pub count : x.count ≡ d.sectors
  pub held : x.held ≡ Some (zero_sectors d.sectors d.sector)
  pub faults : x.faults ≡ 0
  pub fails : fails_of x ≡ Some []

-- the same as a disk
pub record IsZeroDisk (d : DiskDecl) (m : Memory) : Type 0 where
  pub sector : m.sector ≡ d.sector
  pub sectors : m.sectors ≡ zero_sectors d.sectors d.sector
  pub faults : m.faults ≡ 0
  pub fails : m.fails ≡ []

-- the disk of a declaration is this drive: taken from the shelf, or made
abbrev pub OpensDrive : ShelfView → DiskDecl → DriveView → ShelfView → DiskKind → Type 0
OpensDrive before d x after disk_kinds.Ram = IsMade d x × (after ≡ before)
OpensDrive before d x after disk_kinds.Shelf = TakesDisk before d x after

-- whether a take failed where it stops so
abbrev pub is_shelf_fault : Stop → Bool
is_shelf_fault (stops.ShelfFault name) = true
is_shelf_fault _ = false

-- why a take stops: the shelf failed, the disk is missing or of a bad size, or memory ran out; nothing else is a fault
abbrev pub TakeCause : ShelfView → DiskDecl → Stop → ShelfView → Type 0
TakeCause before d (stops.ShelfFault name) after = (name ≡ d.name) × Rose before.faults after.faults
TakeCause before d (stops.NoDisk name) after =
    (name ≡ d.name) × IfSome before.told (λ images. images name ≡ None) × (after.faults ≡ before.faults)
TakeCause before d (stops.BadSize name) after =
    (name ≡ d.name)
    × IfSome before.told (λ images. IsSomeAnd (images name) (λ bytes. IsDiskSize d.sector (length bytes) → ⊥))
    × (after.faults ≡ before.faults)
TakeCause before d stops.NoMemory after = ⊤
TakeCause before d _ after = ⊥

-- what a take answered that stops so
abbrev pub answer_at : Stop → TakeAnswer
answer_at (stops.ShelfFault name) = answers.Failed
answer_at (stops.NoDisk name) = answers.Missing
answer_at (stops.BadSize name) = answers.BadSize
answer_at _ = answers.NoMemory

-- nothing was taken of a name: all is as before, but that it was asked for, and what is counted of it
pub record TakesNothing (before : ShelfView) (d : DiskDecl) (stop : Stop) (after : ShelfView) : Type 0 where
  pub cause : TakeCause before d stop after
  pub told : WhereBothTell IsAsBefore before.told after.told
  pub lent : after.lent ≡ before.lent
  pub disks : (name : List ℕ) → after.faults_of name ≡ before.faults_of name
  pub asked : (name : List ℕ) → after.asked_of name ≡ before.asked_of name
  pub sectors : (name : List ℕ) → after.sectors_of name ≡ before.sectors_of name
  pub takes : CountsCall (is_shelf_fault stop) d.name before.take_faults after.take_faults
  pub gives : (name : List ℕ) → after.give_faults name ≡ before.give_faults name
  pub later : before.faults ≤ after.faults
  pub called : after.calls ≡ before.calls ++ shelf_calls.Take d.name (answer_at stop) ∷ []

-- the disk of a declaration couldn't be had
abbrev pub OpensNoDrive : ShelfView → DiskDecl → Stop → ShelfView → DiskKind → Type 0
OpensNoDrive before d stop after disk_kinds.Ram = (stop ≡ stops.NoMemory) × (after ≡ before)
OpensNoDrive before d stop after disk_kinds.Shelf = TakesNothing before d stop after

-- All disks are taken

-- the disks of the header, in its order, are these drives
abbrev pub OpensDrives : ShelfView → List DiskDecl → List DriveView → ShelfView → Type 0
OpensDrives before [] [] after = after ≡ before
OpensDrives before (d ∷ ds) (x ∷ xs) after =
    (between : ShelfView) × OpensDrive before d x between d.kind × OpensDrives between ds xs after
OpensDrives before _ _ after = ⊥

-- the names of disks
abbrev pub names_of : List DiskDecl → List (List ℕ)
names_of disks = map (λ d. d.name) disks

-- a disk couldn't be had, after those before it
pub record StopsOpening (before : ShelfView) (disks : List DiskDecl) (names : List (List ℕ)) (xs : List DriveView)
    (stop : Stop) (after : ShelfView) : Type 0 where
  pub front : List DiskDecl
  pub disk : DiskDecl
  pub back : List DiskDecl
  pub all : disks ≡ front ++ disk ∷ back
  pub named : names ≡ names_of front
  pub between : ShelfView
  pub earlier : OpensDrives before front xs between
  pub stopped : OpensNoDrive between disk stop after disk.kind

-- Disks are given back

-- the disk of a name was given back
pub record GivesDisk (before : ShelfView) (name : List ℕ) (x : DriveView) (after : ShelfView) : Type 0 where
  pub told : WhereBothTell (IsGivenTo name x.held) before.told after.told
  pub counted : IfSome x.held (λ sectors. length sectors ≡ x.count)
  pub lent : after.lent ≡ names_without name before.lent
  pub disks : IsBrought name x.faults before.faults_of after.faults_of
  pub asked : IsBrought name x.asked before.asked_of after.asked_of
  pub sectors : IsBrought name x.count before.sectors_of after.sectors_of
  pub takes : (other : List ℕ) → after.take_faults other ≡ before.take_faults other
  pub gives : (other : List ℕ) → after.give_faults other ≡ before.give_faults other
  pub no_fault : after.faults ≡ before.faults
  pub called : after.calls ≡ before.calls ++ shelf_calls.Give name ∷ []

-- the disk of a name couldn't be given back: it stays lent, but is known
pub record KeepsDisk (before : ShelfView) (name : List ℕ) (x : DriveView) (after : ShelfView) : Type 0 where
  pub told : WhereBothTell IsAsBefore before.told after.told
  pub lent : after.lent ≡ before.lent
  pub disks : IsBrought name x.faults before.faults_of after.faults_of
  pub asked : IsBrought name x.asked before.asked_of after.asked_of
  pub sectors : IsBrought name x.count before.sectors_of after.sectors_of
  pub takes : (other : List ℕ) → after.take_faults other ≡ before.take_faults other
  pub gives : CountsCall true name before.give_faults after.give_faults
  pub rose : Rose before.faults after.faults
  pub called : after.calls ≡ before.calls ++ shelf_calls.Give name ∷ []

-- a drive is given back under its name, where it is of the shelf; kept is its name where that failed
abbrev pub GivesDrive : ShelfView → List ℕ → DriveView → List (List ℕ) → ShelfView → DiskKind → Type 0
GivesDrive before name x kept after disk_kinds.Ram = (kept ≡ []) × (after ≡ before)
GivesDrive before name x kept after disk_kinds.Shelf =
    ((kept ≡ []) × GivesDisk before name x after) ⊎ ((kept ≡ name ∷ []) × KeepsDisk before name x after)

-- the drives are given back under their names, in order; kept are the names of those for which that failed
abbrev pub GivesBack : ShelfView → List (List ℕ) → List DriveView → List (List ℕ) → ShelfView → Type 0
GivesBack before [] [] kept after = (kept ≡ []) × (after ≡ before)
GivesBack before (name ∷ names) (x ∷ xs) kept after =
    (between : ShelfView) × (first : List (List ℕ)) × (rest : List (List ℕ)) × (kept ≡ first ++ rest)
    × GivesDrive before name x first between (drive_kind x) × GivesBack between names xs rest after
GivesBack before _ _ kept after = ⊥

-- a drive of the shelf is out under its name, which has no more faults than the drive
pub record IsOut (shelf : ShelfView) (name : List ℕ) (x : DriveView) : Type 0 where
  pub lent : Contains shelf.lent name
  pub counted : shelf.faults_of name ≤ x.faults

-- the name of a disk, unless it was given back
abbrev pub kept_name : Bool → List ℕ → List (List ℕ)
kept_name true name = []
kept_name false name = name ∷ []

-- the first name that is kept: the one before, or this one unless it was given back
abbrev pub first_kept : Option (List ℕ) → Bool → List ℕ → Option (List ℕ)
first_kept (Some first) given name = Some first
first_kept None true name = None
first_kept None false name = Some name

-- no name is this one
abbrev pub AreOther : List ℕ → List (List ℕ) → Type 0
AreOther name [] = ⊤
AreOther name (other ∷ names) = (other ≢ name) × AreOther name names

-- the drives of the shelf are out under their names, which differ
abbrev pub AreOut : ShelfView → List (List ℕ) → List DriveView → Type 0
AreOut shelf [] [] = ⊤
AreOut shelf (name ∷ names) (x ∷ xs) =
    (drive_kind x ≡ disk_kinds.Shelf → IsOut shelf name x) × AreOther name names × AreOut shelf names xs
AreOut shelf _ _ = ⊥

-- each name is another
abbrev pub AreApart : List (List ℕ) → Type 0
AreApart [] = ⊤
AreApart (name ∷ names) = AreOther name names × AreApart names

-- the disks couldn't be had, and those that were taken before were given back
pub record GivesUp (before : ShelfView) (disks : List DiskDecl) (stop : Stop) (after : ShelfView) : Type 0 where
  pub names : List (List ℕ)
  pub drives : List DriveView
  pub between : ShelfView
  pub stops : StopsOpening before disks names drives stop between
  pub kept : List (List ℕ)
  pub given : GivesBack between names drives kept after

-- the disks couldn't be had: memory ran out before the first was taken, or those that were taken were given back
abbrev pub TakesBack : ShelfView → List DiskDecl → Stop → ShelfView → Type 0
TakesBack before disks stop after = ((stop ≡ stops.NoMemory) × (after ≡ before)) ⊎ GivesUp before disks stop after

-- a disk of a shelf as a drive
abbrev pub shelved_view : {D : Type 0} → (D → DiskView) → D → DriveView
shelved_view view d = drive_view view (Shelved d)
