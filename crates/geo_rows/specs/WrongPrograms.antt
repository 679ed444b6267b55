-- Programs that don't do what they should, and that what a run keeps refuses.
use Rattle.std.specs.Prelude.{◌≡◌, ◌≢◌, ℕ, ◌+◌, ◌-◌, ◌^◌, ◌<◌, ◌≤◌, true, List, [], ◌∷◌, ◌++◌, length, Ok, Some, None, IsSome, IfSome, All, Contains, codes}
use Rattle.geo_base.specs.Faults.{Rose}
use Rattle.geo_base.specs.Images.{Images}
use Rattle.geo_base.specs.declared.limits.TheConstants.{MAX_LOG_ENTRIES}
use Rattle.geo_io.specs.Counts.{FailedAtLast}
use Rattle.geo_disk.specs.declared.shelf.ShelfCall.{ShelfCall}
use Rattle.geo_disk.specs.declared.shelf.ShelfCall.TheVariants as shelf_calls
use Rattle.geo_disk.specs.declared.shelf.TakeAnswer.{TakeAnswer}
use Rattle.geo_model.specs.declared.command.DiskDecl.{DiskDecl}
use Rattle.geo_model.specs.declared.step.Entry.{Entry}
use Rattle.geo_model.specs.declared.step.Step.TheVariants as steps
use Rattle.geo_model.specs.World.{World, Plan}
use Rattle.geo_model.specs.Opening.{opening}
use Rattle.geo_model.specs.Step.{is_enabled}
use Rattle.geo_model.specs.Log.{replay, owed}
use Rattle.geo_model.specs.Report.{end_line}
use Rattle.geo_model.specs.Script.{IsScript}
use Rattle.geo_headline.specs.declared.verified.Verified.{Verified}
use Rattle.geo_headline.specs.declared.verified.Verified.TheVariants as found
use Rattle.geo_headline.specs.Modes.{Mode, StepMode, VerifyMode, Accepts, StartsThreads, source_limit}
use Rattle.geo_model.specs.FixedOrder.{EventWorkerIdle, event_seat}
use Rattle.geo_headline.specs.Outside.{IsShelf, HasImage, IsKeptBack, IsUnasked, calls_logged, failures_of, kept_back}
use Rattle.geo_headline.specs.Endings.{Call, Ending, script_of}
use Rattle.geo_headline.specs.Verifying.{verified}
use Rattle.geo_headline.specs.Headline.{KeepsAll}

-- no call of the kind keeps what a run keeps, whatever mode, plan and ending are said of it
abbrev pub IsRefused : (Call → Type 0) → Type 0
IsRefused IsKind =
    (call : Call) (mode : Mode) (plan : Plan) (ending : Ending) → IsKind call → KeepsAll call mode plan ending → ⊥

-- One status whatever comes

-- the words are accepted, and yet the usage line is printed
abbrev pub AnswersUsage : Call → Type 0
AnswersUsage call = (call.status ≡ 1) × ((mode : Mode) × Accepts call.words mode)

-- the text is a script and no trace is asked for, and yet a fault of it is printed
abbrev pub AnswersFaultOfScript : Call → Type 0
AnswersFaultOfScript call =
    (call.status ≡ 2) × (Accepts call.words VerifyMode → ⊥) × ((p : Plan) × IsScript call.text p)

-- the text is a trace, and yet a fault of it is printed
abbrev pub AnswersFaultOfTrace : Call → Type 0
AnswersFaultOfTrace call =
    (call.status ≡ 2) × Accepts call.words VerifyMode × ((found : Verified) × (verified call.text ≡ Ok found))

-- no read failed, and yet it says so
abbrev pub AnswersReadFault : Call → Type 0
AnswersReadFault call = (call.status ≡ 3) × (Rose call.before.source.faults call.after.source.faults → ⊥)

-- no write failed, and yet it says so
abbrev pub AnswersWriteFault : Call → Type 0
AnswersWriteFault call = (call.status ≡ 4) × (Rose call.before.sink.faults call.after.sink.faults → ⊥)

-- the shelf tells that each disk is there, none of its takes and gives failed, and yet it blames a disk
pub record AnswersDiskFault (call : Call) : Type 0 where
  pub status : call.status ≡ 5
  pub takes : (name : List ℕ) → Rose (call.before.shelf.take_faults name) (call.after.shelf.take_faults name) → ⊥
  pub gives : (name : List ℕ) → Rose (call.before.shelf.give_faults name) (call.after.shelf.give_faults name) → ⊥
  pub had : Images
  pub told : call.before.shelf.told ≡ Some had
  pub there : (mode : Mode) (p : Plan) → IsScript (script_of mode call.text) p
      → All (λ d. IsShelf d.kind → HasImage d had) p.disks

-- it says that the log is full, and gives none
abbrev pub AnswersFullWithoutLog : Call → Type 0
AnswersFullWithoutLog call = (call.status ≡ 7) × (call.log ≡ None)

-- it says that the log is full, and gives an empty one
abbrev pub AnswersFullAtOnce : Call → Type 0
AnswersFullAtOnce call = (call.status ≡ 7) × (call.log ≡ Some [])

-- it says that the log is full, and gives one that has places left, whatever plan it is of
abbrev pub AnswersFullTooEarly : Call → Type 0
AnswersFullTooEarly call =
    (call.status ≡ 7)
    × ((plan : Plan) →
    IfSome call.log (λ log. length log + owed (replay (opening plan call.facts) log) < MAX_LOG_ENTRIES - 1))

-- the text isn't too long for what the words ask, and yet it says so
abbrev pub AnswersTooLong : Call → Type 0
AnswersTooLong call =
    (call.status ≡ 8) × ((mode : Mode) → Accepts call.words mode → length call.text ≤ source_limit mode)

-- the text is a trace that holds, or none, and yet it says that a trace doesn't hold
abbrev pub AnswersNo : Call → Type 0
AnswersNo call = (call.status ≡ 9) × ((answer : Verified) → verified call.text ≡ Ok answer → answer ≡ found.Yes)

-- Traces

-- a trace is to be verified that doesn't hold, and yet all is well
pub record SaysYes (call : Call) : Type 0 where
  pub words : Accepts call.words VerifyMode
  pub status : call.status ≡ 0
  pub false_trace : verified call.text ≡ Ok found.Yes → ⊥

-- a trace is to be verified, and yet a mesh is run
pub record RunsTrace (call : Call) : Type 0 where
  pub words : Accepts call.words VerifyMode
  pub ran : IsSome call.log

-- Disks

-- a disk that it took stays with it, and no fault of the shelf is to blame
pub record KeepsDisk (call : Call) : Type 0 where
  pub name : List ℕ
  pub kept : IsKeptBack call.before.shelf call.after.shelf name
  pub no_fault : call.after.shelf.faults ≡ call.before.shelf.faults
  pub counted : call.before.shelf.faults < 2 ^ 64 - 1

-- a disk that it took stays with it, though no give of it failed
pub record DropsDisk (call : Call) : Type 0 where
  pub name : List ℕ
  pub kept : IsKeptBack call.before.shelf call.after.shelf name
  pub not_given : Rose (call.before.shelf.give_faults name) (call.after.shelf.give_faults name) → ⊥

-- all disks were given back, no take of this one failed, and yet it is blamed
pub record BlamesAnotherDisk (call : Call) : Type 0 where
  pub status : call.status ≡ 5
  pub name : List ℕ
  pub blamed : call.written ≡ codes "shelf fault " ++ name ++ end_line
  pub all_back : kept_back call.before.shelf call.after.shelf ≡ []
  pub not_taken : Rose (call.before.shelf.take_faults name) (call.after.shelf.take_faults name) → ⊥

-- an image that wasn't kept back is gone
pub record LosesImage (call : Call) : Type 0 where
  pub had : Images
  pub has : Images
  pub told_before : call.before.shelf.told ≡ Some had
  pub told_after : call.after.shelf.told ≡ Some has
  pub name : List ℕ
  pub not_kept : IsKeptBack call.before.shelf call.after.shelf name → ⊥
  pub bytes : List ℕ
  pub there : had name ≡ Some bytes
  pub gone : has name ≡ None

-- on the word `step` all is well, and the script's first disk is this one, of the shelf
pub record ReportsDisk (call : Call) (disk : DiskDecl) : Type 0 where
  pub words : Accepts call.words StepMode
  pub status : call.status ≡ 0
  pub rest : List DiskDecl
  pub text : (p : Plan) → IsScript call.text p → p.disks ≡ disk ∷ rest
  pub of_shelf : IsShelf disk.kind

-- the shelf hasn't the disk
pub record InventsDisk (call : Call) : Type 0 where
  pub disk : DiskDecl
  pub reports : ReportsDisk call disk
  pub had : Images
  pub told : call.before.shelf.told ≡ Some had
  pub missing : had disk.name ≡ None

-- the disk is lent to another, also where the shelf tells nothing
pub record InventsLentDisk (call : Call) : Type 0 where
  pub disk : DiskDecl
  pub reports : ReportsDisk call disk
  pub lent : Contains call.before.shelf.lent disk.name

-- all is well, and yet the first disk that it took of the shelf is another than the first of the header
pub record TakesAnotherFirst (call : Call) : Type 0 where
  pub disk : DiskDecl
  pub reports : ReportsDisk call disk
  pub name : List ℕ
  pub other : name ≢ disk.name
  pub answer : TakeAnswer
  pub rest : List ShelfCall
  pub calls : call.after.shelf.calls ≡ call.before.shelf.calls ++ shelf_calls.Take name answer ∷ rest

-- Failures and calls that are kept secret

-- a write failed, and the status isn't that of a write fault
abbrev pub HidesWriteFault : Call → Type 0
HidesWriteFault call = (call.status ≢ 4) × (call.after.sink.faults ≢ call.before.sink.faults)

-- a read failed, and the status isn't that of a read fault, nor of a write fault
abbrev pub HidesReadFault : Call → Type 0
HidesReadFault call =
    (call.status ≢ 3) × (call.status ≢ 4) × (call.after.source.faults ≢ call.before.source.faults)

-- a write failed, and the status says so, but it wasn't the one that failed, or it wasn't the last write
abbrev pub WritesOn : Call → Type 0
WritesOn call =
    (call.status ≡ 4)
    × (FailedAtLast call.before.sink.faults call.after.sink.faults call.after.sink.failed → ⊥)

-- the same of a read
abbrev pub ReadsOn : Call → Type 0
ReadsOn call =
    (call.status ≡ 3)
    × (FailedAtLast call.before.source.faults call.after.source.faults call.after.source.failed → ⊥)

-- all disks were given back, and yet a give of a name failed on the way
pub record GivesAgain (call : Call) : Type 0 where
  pub name : List ℕ
  pub all_back : kept_back call.before.shelf call.after.shelf ≡ []
  pub failed : call.after.shelf.give_faults name ≢ call.before.shelf.give_faults name

-- all is well, and yet a take of a name failed on the way
pub record TakesAgain (call : Call) : Type 0 where
  pub status : call.status ≡ 0
  pub name : List ℕ
  pub failed : call.after.shelf.take_faults name ≢ call.before.shelf.take_faults name

-- no mesh was run, and yet the disk of a name was asked, or failed
pub record AsksInSecret (call : Call) : Type 0 where
  pub no_log : call.log ≡ None
  pub name : List ℕ
  pub asked : IsUnasked call.before.shelf call.after.shelf name → ⊥

-- the first disk was asked something else than the log says, or in another order: it was written other bytes, say, or
-- gave others
pub record AsksOtherwise (call : Call) : Type 0 where
  pub disk : DiskDecl
  pub reports : ReportsDisk call disk
  pub otherwise : IfSome call.log (λ log.
      call.after.shelf.asked_of disk.name ≢ call.before.shelf.asked_of disk.name ++ calls_logged log 0)

-- the first disk failed, though the log says of no failure
pub record HidesDiskFault (call : Call) : Type 0 where
  pub disk : DiskDecl
  pub reports : ReportsDisk call disk
  pub none_told : IfSome call.log (λ log. failures_of log 0 ≡ 0)
  pub failed : call.after.shelf.faults_of disk.name ≢ call.before.shelf.faults_of disk.name

-- the first disk had other sectors than the mesh began with, also where the shelf tells nothing
pub record InventsSize (call : Call) : Type 0 where
  pub disk : DiskDecl
  pub reports : ReportsDisk call disk
  pub bytes : ℕ
  pub sectors : ℕ
  pub rest : List (ℕ × ℕ)
  pub facts : call.facts ≡ (bytes, sectors) ∷ rest
  pub other : call.after.shelf.sectors_of disk.name ≢ sectors

-- Threads

-- on a word that starts threads no job made a step, though a disk stands whose event is due
pub record LeavesAllToTheDrain (call : Call) : Type 0 where
  pub mode : Mode
  pub threads : StartsThreads mode
  pub words : Accepts call.words mode
  pub status : call.status ≡ 0
  pub text : call.text ≡ codes "ram md0 512 4"
  pub facts : call.facts ≡ (512, 4) ∷ []
  pub seats : IfSome call.log (λ log. All (λ e. e.seat ≡ 0) log)

-- the event worker ends a turn idle in which nobody made a step, though an event is due
pub record IdlesAtEvent (opened : World) (plan : Plan) (log : List Entry) : Type 0 where
  pub is_due : is_enabled (replay opened log) (event_seat plan) steps.Event ≡ true
  pub idle : EventWorkerIdle opened plan log log

-- Words that aren't accepted

abbrev pub AcceptsNone : Call → Type 0
AcceptsNone call = (mode : Mode) → Accepts call.words mode → ⊥

-- they are answered by something else than the usage line or a write fault
abbrev pub AnswersNoWords : Call → Type 0
AnswersNoWords call = AcceptsNone call × (call.status ≢ 1) × (call.status ≢ 4)

-- the source is read, or the shelf is called
abbrev pub ActsOnNoWords : Call → Type 0
ActsOnNoWords call =
    AcceptsNone call
    × ((call.after.source ≡ call.before.source) × (call.after.shelf ≡ call.before.shelf) → ⊥)
