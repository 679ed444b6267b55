-- What a call finds outside, and what it leaves there: source, sink, and the shelf with its disks.
use Rattle.std.specs.Prelude.{◌≡◌, ◌≢◌, ℕ, ◌*◌, ◌==◌, Bool, true, false, not, ◌&&◌, List, [], ◌∷◌, ◌++◌, length, map, flat_map, count_by, filter, Option, Some, None, IsSomeAnd, IfSome, IsTrue, All, Contains, option_and_then, if◌then◌else◌}
use Rattle.std.specs.List.{list_any, enumerate_from}
use Rattle.geo_base.specs.Images.{Images, IsDiskSize}
use Rattle.geo_base.specs.Sectors.{sectors_of, joined_sectors, zero_sectors}
use Rattle.geo_disk.specs.Calls.{CallMade}
use Rattle.geo_disk.specs.declared.shelf.ShelfCall.{ShelfCall}
use Rattle.geo_disk.specs.declared.shelf.ShelfCall.TheVariants as shelf_calls
use Rattle.geo_disk.specs.declared.shelf.TakeAnswer.{TakeAnswer}
use Rattle.geo_disk.specs.declared.shelf.TakeAnswer.TheVariants as answers
use Rattle.geo_disk.specs.Counts.{counted_many}
use Rattle.geo_model.specs.declared.command.DiskDecl.{DiskDecl}
use Rattle.geo_model.specs.declared.command.DiskKind.{DiskKind}
use Rattle.geo_model.specs.declared.command.DiskKind.TheVariants as disk_kinds
use Rattle.geo_model.specs.declared.step.DeviceResult.{DeviceResult}
use Rattle.geo_model.specs.declared.step.DeviceResult.TheVariants as devices
use Rattle.geo_model.specs.declared.step.Entry.{Entry}
use Rattle.geo_model.specs.declared.step.Request.{Request}
use Rattle.geo_model.specs.declared.step.Step.{Step}
use Rattle.geo_model.specs.declared.step.Step.TheVariants as steps
use Rattle.geo_model.specs.Words.{is_flush, is_write, same_name}
use Rattle.geo_model.specs.World.{Plan}
use Rattle.geo_model.specs.Results.{request_of}
use Rattle.geo_model.specs.Contents.{contents, AreTrue}
use Rattle.geo_model.specs.FixedOrder.{delivered_in}
pub use Rattle.geo_io.specs.Source.{SourceView}
pub use Rattle.geo_io.specs.Sink.{SinkView}
pub use Rattle.geo_disk.specs.Shelf.{ShelfView}

-- what a call finds, or leaves, at one moment
pub record Outside : Type 0 where
  pub source : SourceView
  pub sink : SinkView
  pub shelf : ShelfView

-- Names

abbrev pub is_shelf : DiskKind → Bool
is_shelf disk_kinds.Shelf = true
is_shelf disk_kinds.Ram = false

abbrev pub IsShelf : DiskKind → Type 0
IsShelf kind = IsTrue (is_shelf kind)

-- the names that are lent after the call and weren't before: those whose disks weren't given back
abbrev pub kept_back : ShelfView → ShelfView → List (List ℕ)
kept_back before after = filter (λ name. not (list_any (same_name name) before.lent)) after.lent

abbrev pub IsKeptBack : ShelfView → ShelfView → List ℕ → Type 0
IsKeptBack before after name = Contains (kept_back before after) name

-- a name that no shelf disk of the plan has
abbrev pub IsForeign : Plan → List ℕ → Type 0
IsForeign plan name = All (λ d. IsShelf d.kind → d.name ≢ name) plan.disks

-- whether a shelf disk of the plan has the name
abbrev pub is_of_plan : Plan → List ℕ → Bool
is_of_plan plan name = list_any (λ d. is_shelf d.kind && same_name d.name name) plan.disks

-- the names of the disks of the shelf, in header order
abbrev pub names_of_shelf : List DiskDecl → List (List ℕ)
names_of_shelf disks = map (λ d. d.name) (filter (λ d. is_shelf d.kind) disks)

-- a take of each of these names that was answered so, and a give of each, in their order
abbrev pub takes_of : TakeAnswer → List (List ℕ) → List ShelfCall
takes_of answer names = map (λ name. shelf_calls.Take name answer) names

abbrev pub gives_of : List (List ℕ) → List ShelfCall
gives_of names = map (λ name. shelf_calls.Give name) names

-- where the shelf told its images before, it tells them after too, and the fact holds of what the name had and has
abbrev pub WhereTold : ShelfView → ShelfView → List ℕ → (Option (List ℕ) → Option (List ℕ) → Type 0) → Type 0
WhereTold before after name Fact =
    IfSome before.told (λ had. IsSomeAnd after.told (λ has. Fact (had name) (has name)))

-- Disks of the shelf before the call

-- the name has an image of such a size
abbrev pub HasImage : DiskDecl → Images → Type 0
HasImage d images = IsSomeAnd (images d.name) (λ bytes. IsDiskSize d.sector (length bytes))

-- the name has none, or one of another size
abbrev pub IsMissing : DiskDecl → Images → Type 0
IsMissing d images = images d.name ≡ None

abbrev pub IsBadSize : DiskDecl → Images → Type 0
IsBadSize d images = IsSomeAnd (images d.name) (λ bytes. IsDiskSize d.sector (length bytes) → ⊥)

-- a disk can be taken: its name isn't lent, and it has an image, as far as the shelf tells it
pub record CanBeTaken (shelf : ShelfView) (d : DiskDecl) : Type 0 where
  pub not_lent : Contains shelf.lent d.name → ⊥
  pub image : IfSome shelf.told (HasImage d)

abbrev pub IsThere : ShelfView → DiskDecl → Type 0
IsThere shelf d = IsShelf d.kind → CanBeTaken shelf d

-- a disk has the sectors of its image, as far as the shelf tells it
abbrev pub HasToldSize : ShelfView → DiskDecl × (ℕ × ℕ) → Type 0
HasToldSize shelf item =
    IsShelf item.0.kind
    → IfSome shelf.told (λ images. IsSomeAnd (images item.0.name) (λ bytes. item.1.1 * item.1.0 ≡ length bytes))

-- Disks after the call

-- a disk of the plan, with its number
pub record PlannedDisk : Type 0 where
  pub number : ℕ
  pub decl : DiskDecl

abbrev pub planned_disk : ℕ × DiskDecl → PlannedDisk
planned_disk item = record { number = item.0; decl = item.1 }

-- the disks of a plan, which are numbered from 0 in the order of the header
abbrev pub planned_disks : Plan → List PlannedDisk
planned_disks plan = map planned_disk (enumerate_from 0 plan.disks)

-- whether a step delivers a failure
abbrev pub is_failed_answer : Step → Bool
is_failed_answer (steps.Deliver b (devices.Failed done)) = true
is_failed_answer _ = false

abbrev pub is_of_disk : ℕ → Option Request → Bool
is_of_disk disk None = false
is_of_disk disk (Some q) = q.disk == disk

-- how many failures of a disk the log delivers
abbrev pub failures_of : List Entry → ℕ → ℕ
failures_of log disk =
    count_by (λ e.
    is_failed_answer e.step && is_of_disk disk (option_and_then (request_of log) (delivered_in e.step))) log

-- how many sectors were done where a disk failed
abbrev pub failed_in : DeviceResult → Option ℕ
failed_in (devices.Failed done) = Some done
failed_in _ = None

-- the bytes of an answer: those that a READ was given, and none of another answer
abbrev pub bytes_in : DeviceResult → List ℕ
bytes_in (devices.Bytes bytes) = bytes
bytes_in _ = []

-- the one call of a disk that serves a request, with the answer that it had; a FLUSH is of no sectors. A WRITE carried
-- the bytes of its request, a READ gave those of its answer, and by DELETE and FLUSH no byte passed
abbrev pub call_served : Request → DeviceResult → CallMade
call_served q got = record {
  cmd = q.cmd;
  first = if is_flush q.cmd then 0 else q.first;
  count = if is_flush q.cmd then 0 else q.count;
  bytes = if is_write q.cmd then q.bytes else bytes_in got;
  failed = failed_in got;
}

-- the call of a disk for an answer to a request, if it is one to this disk
abbrev pub call_for : ℕ → DeviceResult → Option Request → List CallMade
call_for disk got None = []
call_for disk got (Some q) = if q.disk == disk then call_served q got ∷ [] else []

-- the call of a disk that a step delivers the answer of, in a log that has the requests
abbrev pub call_in : List Entry → ℕ → Step → List CallMade
call_in log disk (steps.Deliver b got) = call_for disk got (request_of log b)
call_in log disk _ = []

-- the calls of a disk whose answers the log delivers, in its order
abbrev pub calls_logged : List Entry → ℕ → List CallMade
calls_logged log disk = flat_map (λ e. call_in log disk e.step) log

-- the bytes that an image of these bytes has after the log
abbrev pub image_after : List Entry → PlannedDisk → List ℕ → List ℕ
image_after log d bytes = joined_sectors (contents d.decl.sector (sectors_of d.decl.sector bytes) log d.number)

-- a disk of the shelf, given back or not: it was asked exactly what the log says, in that order, and answered so, byte
-- by byte; exactly the failures of the log are its faults; where the shelf tells what it held, it gave what the log
-- says, and holds that where it was given back
pub record HoldsWhatIsLogged (before after : ShelfView) (log : List Entry) (d : PlannedDisk) : Type 0 where
  pub asked : after.asked_of d.decl.name ≡ before.asked_of d.decl.name ++ calls_logged log d.number
  pub failures : after.faults_of d.decl.name
      ≡ counted_many (failures_of log d.number) (before.faults_of d.decl.name)
  pub bytes : (IsKeptBack before after d.decl.name → ⊥)
      → WhereTold before after d.decl.name (λ had has. IsSomeAnd had (λ bytes. has ≡ Some (image_after log d bytes)))
  pub reads : WhereTold before after d.decl.name (λ had has.
      IsSomeAnd had (λ bytes. AreTrue d.decl.sector (sectors_of d.decl.sector bytes) log d.number))

-- a memory disk never fails, and begins with zeros
pub record IsMemory (log : List Entry) (d : PlannedDisk) : Type 0 where
  pub no_failure : failures_of log d.number ≡ 0
  pub reads : AreTrue d.decl.sector (zero_sectors d.decl.sectors d.decl.sector) log d.number

abbrev pub IsDiskKept : ShelfView → ShelfView → List Entry → PlannedDisk → DiskKind → Type 0
IsDiskKept before after log d disk_kinds.Ram = IsMemory log d
IsDiskKept before after log d disk_kinds.Shelf = HoldsWhatIsLogged before after log d

-- each disk of the plan
abbrev pub DisksAreKept : Plan → ShelfView → ShelfView → List Entry → Type 0
DisksAreKept plan before after log = All (λ d. IsDiskKept before after log d d.decl.kind) (planned_disks plan)

-- nothing that is known of a name changed: its counts, what its disk was asked, and how many sectors that had
pub record CountsStay (before after : ShelfView) (name : List ℕ) : Type 0 where
  pub disk : after.faults_of name ≡ before.faults_of name
  pub takes : after.take_faults name ≡ before.take_faults name
  pub gives : after.give_faults name ≡ before.give_faults name
  pub asked : after.asked_of name ≡ before.asked_of name
  pub sectors : after.sectors_of name ≡ before.sectors_of name

-- the disk of a name wasn't asked, and had no fault
pub record IsUnasked (before after : ShelfView) (name : List ℕ) : Type 0 where
  pub faults : after.faults_of name ≡ before.faults_of name
  pub asked : after.asked_of name ≡ before.asked_of name

-- a disk of the shelf, given back or not, had as many sectors as the facts say
abbrev pub HasFactSectors : ShelfView → DiskDecl × (ℕ × ℕ) → Type 0
HasFactSectors after item = IsShelf item.0.kind → after.sectors_of item.0.name ≡ item.1.1

-- everything else of the shelf stays: foreign names, names lent before, and no foreign name is kept back
pub record OthersStay (plan : Plan) (before after : ShelfView) : Type 0 where
  pub bytes : (name : List ℕ) → IsForeign plan name → WhereTold before after name (λ had has. has ≡ had)
  pub counts : (name : List ℕ) → IsForeign plan name → CountsStay before after name
  pub still_lent : (name : List ℕ) → Contains before.lent name → Contains after.lent name
  pub of_plan : All (λ name. IsTrue (is_of_plan plan name)) (kept_back before after)

-- the images are as before, but that those which were kept back are missing
abbrev pub ImagesStay : ShelfView → ShelfView → Type 0
ImagesStay before after =
    (name : List ℕ) → WhereTold before after name (λ had has.
    ((IsKeptBack before after name → ⊥) → has ≡ had) × (IsKeptBack before after name → has ≡ None))

-- an image that is there stays there in its length
abbrev pub KeepsLength : Option (List ℕ) → Option (List ℕ) → Type 0
KeepsLength had has = IfSome had (λ bytes. IsSomeAnd has (λ now. length now ≡ length bytes))

-- each image that wasn't kept back is there in its length
abbrev pub ImagesStand : ShelfView → ShelfView → Type 0
ImagesStand before after =
    (name : List ℕ) → (IsKeptBack before after name → ⊥) → WhereTold before after name KeepsLength
