-- What a whole run keeps, and when it has to succeed.
use Rattle.std.specs.Prelude.{◌≡◌, ◌≢◌, ◌⊎◌, ℕ, ◌+◌, ◌≤◌, Bool, true, false, List, [], ◌++◌, drop, length, unwrap_or, Option, Some, None, IsSome, IsSomeAnd, IfSome, IfNone, All, Contains, Err, zip, ⊤}
use Rattle.std.specs.List.{list_any}
use Rattle.geo_base.specs.Faults.{Rose, RoseBy}
use Rattle.geo_disk.specs.Counts.{counted_if}
use Rattle.geo_disk.specs.declared.shelf.ShelfCall.{ShelfCall}
use Rattle.geo_disk.specs.declared.shelf.ShelfCall.TheVariants as shelf_calls
use Rattle.geo_disk.specs.declared.shelf.TakeAnswer.{TakeAnswer}
use Rattle.geo_disk.specs.declared.shelf.TakeAnswer.TheVariants as answers
use Rattle.geo_io.specs.Counts.{FailedAtLast}
use Rattle.geo_model.specs.declared.command.DiskDecl.{DiskDecl}
use Rattle.geo_model.specs.declared.step.Entry.{Entry}
use Rattle.geo_model.specs.Words.{same_name}
use Rattle.geo_model.specs.World.{World, Plan}
use Rattle.geo_model.specs.Opening.{opening}
use Rattle.geo_model.specs.Log.{Fits}
use Rattle.geo_model.specs.Script.{script, Fault, IsScript, empty_plan}
use Rattle.geo_headline.specs.Modes.{Mode, GenMode, VerifyMode, Accepts, starts_threads, TakesNoDisk, source_limit}
use Rattle.geo_model.specs.History.{KeepsHistory, RanToItsEnd}
use Rattle.geo_model.specs.FixedOrder.{StepOrder, FollowsOrder, FollowsJobs, JobsEndedIdle}
use Rattle.geo_headline.specs.Replies.{EachCommandHasItsReply}
use Rattle.geo_headline.specs.Outside.{Outside, ShelfView, kept_back, IsUnasked, HasFactSectors, IsShelf, HasImage, names_of_shelf, takes_of, gives_of, DisksAreKept, OthersStay, ImagesStay, ImagesStand}
use Rattle.geo_headline.specs.Endings.{Ending, BadWords, ReadFault, ShelfFault, NoDisk, BadSize, OutOfMemory, Call, status_of, due_text, BytesPass, order_of, script_of, reported, IsWhole, HasLog, WasReadWhole, IsOpened, CauseOf, blamed_by, missed_by, failed_takes, IsBeforeDisks}

-- the mode and the plan are those of the words and of the text; a source that wasn't read to its end gives no plan
pub record ReadAs (call : Call) (mode : Mode) (plan : Plan) : Type 0 where
  pub mode_is : (m : Mode) → Accepts call.words m → m ≡ mode
  pub plan_is : WasReadWhole call mode → (p : Plan) → IsScript (script_of mode call.text) p → p ≡ plan
  pub no_plan : (f : Fault) → script (script_of mode call.text) ≡ Err f → plan ≡ empty_plan
  pub not_read : (WasReadWhole call mode → ⊥) → plan ≡ empty_plan

-- what a status of 4 means: one write failed, the last, and a first part of the due text is written, with some left
pub record IsCutOff (call : Call) (due : List ℕ) : Type 0 where
  pub fault : FailedAtLast call.before.sink.faults call.after.sink.faults call.after.sink.failed
  pub rest : List ℕ
  pub some_left : rest ≢ []
  pub written : call.written ++ rest ≡ due

-- at any other status the whole of the due text is written
pub record IsWritten (call : Call) (ending : Ending) (due : List ℕ) : Type 0 where
  pub status : call.status ≡ status_of ending
  pub written : call.written ≡ due

pub record Prints (call : Call) (ending : Ending) (due : List ℕ) : Type 0 where
  pub cut_off : call.status ≡ 4 → IsCutOff call due
  pub whole : call.status ≢ 4 → IsWritten call ending due

-- each disk that was kept back, and a take that failed, is one more fault of the shelf; for each name that was kept
-- back a give of it failed
pub record LentAfter (ending : Ending) (before after : ShelfView) : Type 0 where
  pub faults : RoseBy (failed_takes ending + length (kept_back before after)) before.faults after.faults
  pub gives : All (λ name. Rose (before.give_faults name) (after.give_faults name)) (kept_back before after)

-- a write or read that failed is told: by a status of 4, or by `read fault`
pub record StreamsAreTold (call : Call) (ending : Ending) : Type 0 where
  pub writes : call.status ≢ 4 → call.after.sink.faults ≡ call.before.sink.faults
  pub reads : ending ≢ ReadFault → call.after.source.faults ≡ call.before.source.faults

-- whether a take of the name is blamed
abbrev pub is_blamed : Option (List ℕ) → List ℕ → Bool
is_blamed None name = false
is_blamed (Some blamed) name = same_name blamed name

-- of the name that is blamed one take failed, and of each other none
abbrev pub TakesAreTold : Option (List ℕ) → ShelfView → ShelfView → Type 0
TakesAreTold blamed before after =
    (name : List ℕ) → after.take_faults name ≡ counted_if (is_blamed blamed name) (before.take_faults name)

-- of each name that was kept back one give failed, and of each other none
abbrev pub GivesAreTold : ShelfView → ShelfView → Type 0
GivesAreTold before after =
    (name : List ℕ) → after.give_faults name
    ≡ counted_if (list_any (same_name name) (kept_back before after)) (before.give_faults name)

-- takes and gives that failed are told, each once, and the take is the one that the ending blames; where none failed
-- the shelf has no more faults, unless memory ran out
pub record CallsAreTold (ending : Ending) (before after : ShelfView) : Type 0 where
  pub takes : TakesAreTold (blamed_by ending) before after
  pub gives : GivesAreTold before after
  pub no_fault : ending ≢ OutOfMemory → failed_takes ending ≡ 0 → kept_back before after ≡ []
      → after.faults ≡ before.faults

-- the disk that couldn't be had is the one that the ending names; where memory runs out that may be told of none
abbrev pub IsMissedAt : Ending → List (List ℕ) → Type 0
IsMissedAt OutOfMemory missed = length missed ≤ 1
IsMissedAt ending missed = missed ≡ missed_by ending

-- what the take of a disk that couldn't be had answered, where the ending says so; it never answered a disk
abbrev pub IsAnswerAt : Ending → TakeAnswer → Type 0
IsAnswerAt (ShelfFault name) answer = answer ≡ answers.Failed
IsAnswerAt (NoDisk name) answer = answer ≡ answers.Missing
IsAnswerAt (BadSize name) answer = answer ≡ answers.BadSize
IsAnswerAt OutOfMemory answer = answer ≡ answers.NoMemory
IsAnswerAt ending answer = answer ≢ answers.Disk

-- the calls of the shelf: takes of its disks in header order, up to one that couldn't be had, and of all where a mesh
-- ran, each with its answer; then gives of those that were had, in header order
pub record CallsInOrder (plan : Plan) (ending : Ending) (log : Option (List Entry))
    (before after : ShelfView) : Type 0 where
  pub had : List (List ℕ)
  pub missed : List (List ℕ)
  pub left : List (List ℕ)
  pub names : names_of_shelf plan.disks ≡ had ++ missed ++ left
  pub missed_is : IsMissedAt ending missed
  pub answer : TakeAnswer
  pub answer_is : IsAnswerAt ending answer
  pub all : IsSome log → had ≡ names_of_shelf plan.disks
  pub calls : after.calls ≡ before.calls ++ takes_of answers.Disk had ++ takes_of answer missed ++ gives_of had

-- with threads the log is what the jobs did and then what was left, and in a run to its end it says why the jobs ended
pub record FollowsRun (order : StepOrder) (plan : Plan) (opened : World) (ending : Ending)
    (log : List Entry) : Type 0 where
  pub threads : List Entry
  pub rest : List Entry
  pub parts : log ≡ threads ++ rest
  pub jobs : FollowsJobs order plan opened threads rest
  pub idle : IsWhole ending → JobsEndedIdle plan opened threads rest

-- the log stands in the order of the mode; with threads what was left after them does
abbrev pub FollowsMode : Mode → Plan → World → Ending → List Entry → Type 0
FollowsMode mode plan opened ending log = follows (starts_threads mode)
  where
    follows : Bool → Type 0
    follows true = FollowsRun (order_of mode) plan opened ending log
    follows false = FollowsOrder (order_of mode) opened [] log

-- no disk was asked
abbrev pub NoneAsked : ShelfView → ShelfView → Type 0
NoneAsked before after = (name : List ℕ) → IsUnasked before after name

-- the disks of the shelf had the sectors with which the mesh began
abbrev pub HaveFactSectors : Plan → List (ℕ × ℕ) → ShelfView → Type 0
HaveFactSectors plan facts after = All (HasFactSectors after) (zip plan.disks facts)

abbrev pub IsGen : Mode → Type 0
IsGen (GenMode start count) = ⊤
IsGen _ = ⊥

abbrev pub IsBadWords : Ending → Type 0
IsBadWords BadWords = ⊤
IsBadWords _ = ⊥

-- the source stays where it isn't read, and the shelf where no disk is taken
pub record LeavesOutside (mode : Mode) (ending : Ending) (before after : Outside) : Type 0 where
  pub source : IsGen mode ⊎ IsBadWords ending → after.source ≡ before.source
  pub shelf : TakesNoDisk mode ⊎ IsBeforeDisks ending → after.shelf ≡ before.shelf

-- the source was read no more often than it may give bytes, and twice
abbrev pub ReadsFew : Call → Mode → Type 0
ReadsFew call mode = call.after.source.reads ≤ call.before.source.reads + (source_limit mode + 2)

-- what was read and written: mode and plan are those of the words and of the text, the source gave this text, the sink
-- took what is due, and a write or read that failed is told
pub record KeepsTexts (call : Call) (mode : Mode) (plan : Plan) (ending : Ending) : Type 0 where
  pub read_as : ReadAs call mode plan
  pub bytes : BytesPass call
  pub prints : Prints call ending (due_text (reported mode call.text plan call.facts call.log) ending)
  pub streams : StreamsAreTold call ending
  pub reads : ReadsFew call mode

-- why it ended so: the ending has its cause, and a log where it has to have one; and a log is only there where the
-- mesh of the plan could be opened
pub record KeepsEnding (call : Call) (mode : Mode) (plan : Plan) (ending : Ending) : Type 0 where
  pub cause : CauseOf call mode plan ending
  pub has_log : HasLog ending call.log
  pub is_opened : IsSome call.log → IsOpened call mode plan

-- what the log is: the history of the opened mesh, which runs to its end where a report is due, and has then one reply
-- for each command; it stands in the order of the mode, and has places left for what it owes
pub record KeepsLog (call : Call) (mode : Mode) (plan : Plan) (ending : Ending) : Type 0 where
  pub history : IfSome call.log (KeepsHistory (opening plan call.facts))
  pub to_its_end : IsWhole ending → IfSome call.log (RanToItsEnd (opening plan call.facts))
  pub replies : IsWhole ending → IfSome call.log (EachCommandHasItsReply plan)
  pub order : IfSome call.log (FollowsMode mode plan (opening plan call.facts) ending)
  pub fits : IfSome call.log (Fits (opening plan call.facts))

-- what is outside: each disk did what the log says, and holds it unless it was kept back; the shelf was called in
-- order, each call that failed is told, and everything else is as it was before
pub record KeepsOutside (call : Call) (mode : Mode) (plan : Plan) (ending : Ending) : Type 0 where
  pub disks : IfSome call.log (DisksAreKept plan call.before.shelf call.after.shelf)
  pub lent : LentAfter ending call.before.shelf call.after.shelf
  pub calls : CallsAreTold ending call.before.shelf call.after.shelf
  pub in_order : CallsInOrder plan ending call.log call.before.shelf call.after.shelf
  pub others : OthersStay plan call.before.shelf call.after.shelf
  pub unasked : IfNone call.log (NoneAsked call.before.shelf call.after.shelf)
  pub sizes : IsSome call.log → HaveFactSectors plan call.facts call.after.shelf
  pub images : IfNone call.log (ImagesStay call.before.shelf call.after.shelf)
  pub images_stand : ImagesStand call.before.shelf call.after.shelf
  pub untouched : LeavesOutside mode ending call.before call.after

-- Whatever the interleaving, everything printed is the report of the history kept under the topology lock, which
-- replays from the opening; at every prefix counts are sums of open demands and no writer stands beside another's
-- exclusive right; opens are refused exactly where the mesh forbids; every accepted bio completes once, and if
-- successful through exactly its flat map's sectors; geoms are freed only closed, detached and idle.
pub record KeepsAll (call : Call) (mode : Mode) (plan : Plan) (ending : Ending) : Type 0 where
  pub texts : KeepsTexts call mode plan ending
  pub ends : KeepsEnding call mode plan ending
  pub log : KeepsLog call mode plan ending
  pub outside : KeepsOutside call mode plan ending

-- Completeness

-- no fault of the source, the sink or the shelf rose
pub record NoFault (before after : Outside) : Type 0 where
  pub source : Rose before.source.faults after.source.faults → ⊥
  pub sink : Rose before.sink.faults after.sink.faults → ⊥
  pub shelf : Rose before.shelf.faults after.shelf.faults → ⊥

-- the shelf tells that it has an image for the disk
abbrev pub IsToldThere : ShelfView → DiskDecl → Type 0
IsToldThere shelf d = IsShelf d.kind → IsSomeAnd shelf.told (HasImage d)

-- the calls of the shelf that came between
abbrev pub calls_made : ShelfView → ShelfView → List ShelfCall
calls_made before after = drop (length before.calls) after.calls

-- no take of the call answered that there is no disk of a name, or that it is of a bad size
abbrev pub FindsDisks : ShelfView → ShelfView → Type 0
FindsDisks before after =
    (name : List ℕ) → (Contains (calls_made before after) (shelf_calls.Take name answers.Missing) → ⊥)
    × (Contains (calls_made before after) (shelf_calls.Take name answers.BadSize) → ⊥)

-- each disk of the plan is there: as the shelf tells before the call, or as its takes answered
abbrev pub DisksAreThere : ShelfView → ShelfView → Plan → Type 0
DisksAreThere before after plan = All (IsToldThere before) plan.disks ⊎ FindsDisks before after

-- the text that the source has to give: what it had left where it tells that, else what it gave
abbrev pub text_to_give : Call → List ℕ
text_to_give call = unwrap_or call.before.source.left call.text

-- the source has a script to give that isn't too long, and each of its disks is there
abbrev pub GivesScript : Call → Mode → Type 0
GivesScript call (GenMode start count) = ⊤
GivesScript call mode =
    (length (text_to_give call) ≤ source_limit mode)
    × ((p : Plan) × IsScript (text_to_give call) p × DisksAreThere call.before.shelf call.after.shelf p)

-- of a script: where nothing fails and all is there, the status is 0, or 6 or 7
abbrev pub RunIsComplete : Call → Mode → Type 0
RunIsComplete call mode =
    NoFault call.before call.after → GivesScript call mode
    → (call.status ≡ 0) ⊎ (call.status ≡ 6) ⊎ (call.status ≡ 7)

-- of a trace: where neither the source nor the sink fails, the status is 0, 2, 6, 8 or 9
abbrev pub VerifyIsComplete : Call → Type 0
VerifyIsComplete call =
    (Rose call.before.source.faults call.after.source.faults → ⊥)
    → (Rose call.before.sink.faults call.after.sink.faults → ⊥)
    → (call.status ≡ 0) ⊎ (call.status ≡ 2) ⊎ (call.status ≡ 6) ⊎ (call.status ≡ 8) ⊎ (call.status ≡ 9)

abbrev pub ModeIsComplete : Call → Mode → Type 0
ModeIsComplete call VerifyMode = VerifyIsComplete call
ModeIsComplete call mode = RunIsComplete call mode

-- where the words are accepted
abbrev pub IsComplete : Call → Type 0
IsComplete call = (mode : Mode) → Accepts call.words mode → ModeIsComplete call mode
