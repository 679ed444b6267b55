-- How a call of the program ends: its status, its text, and the cause of each ending.
use Rattle.std.specs.Prelude.{◌≡◌, ◌≢◌, ◌⊎◌, ℕ, ◌+◌, ◌-◌, ◌<◌, ◌≤◌, ◌&&◌, List, [], ◌∷◌, ◌++◌, length, find, Ok, Err, Option, Some, None, IsSome, IsNone, IsSomeAnd, IfSome, IsTrue, All, Contains, codes, decimal, ⊤, zip}
use Rattle.std.specs.List.{list_any}
use Rattle.geo_base.specs.Faults.{Rose}
use Rattle.geo_io.specs.Counts.{FailedAtLast}
use Rattle.geo_model.specs.declared.command.Cause.{Cause}
use Rattle.geo_model.specs.declared.command.DiskDecl.{DiskDecl}
use Rattle.geo_model.specs.declared.step.Entry.{Entry}
use Rattle.geo_model.specs.declared.step.Step.{Step}
use Rattle.geo_model.specs.Words.{same_name}
use Rattle.geo_model.specs.World.{World, Plan}
use Rattle.geo_model.specs.Log.{replay, owed, IsPrefixOf}
use Rattle.geo_model.specs.Report.{report, summary, end_line}
use Rattle.geo_model.specs.Script.{IsScript, IsFault, cause_text}
use Rattle.geo_model.specs.Plans.{FactsFit}
use Rattle.geo_model.specs.Opening.{opening}
use Rattle.geo_model.specs.Generator.{generated}
use Rattle.geo_headline.specs.declared.verified.Verified.{Verified}
use Rattle.geo_headline.specs.declared.verified.Verified.TheVariants as found
use Rattle.geo_headline.specs.Modes.{Mode, GenMode, SweepMode, WatchMode, TraceMode, VerifyMode, Accepts, StartsThreads, OpensMesh, source_limit}
use Rattle.geo_headline.specs.Sweep.{sweep_order}
use Rattle.geo_headline.specs.Traces.{InTrace, trace_text, steps_of, script_part}
use Rattle.geo_headline.specs.Verifying.{verified}
use Rattle.geo_headline.specs.Viewing.{view_text}
use Rattle.geo_model.specs.FixedOrder.{StepOrder, fixed_order, IsOfItsJob, FoundFull}
use Rattle.geo_base.specs.Images.{Images}
use Rattle.geo_base.specs.declared.limits.TheConstants.{MAX_LOG_ENTRIES}
use Rattle.geo_headline.specs.Outside.{Outside, ShelfView, IsThere, IsMissing, IsBadSize, HasToldSize, IsShelf, is_shelf, kept_back}

-- Endings

-- how a call ends, where a fault of the sink is left out
pub data Ending : Type 0 where
  -- the report, or the summary
  Reported : Ending
  -- the same, but the disk of this name wasn't given back
  ReportedButFault : (name : List ℕ) → Ending
  BadWords : Ending
  NoScript : (line : ℕ) (cause : Cause) → Ending
  ReadFault : Ending
  ShelfFault : (name : List ℕ) → Ending
  NoDisk : (name : List ℕ) → Ending
  BadSize : (name : List ℕ) → Ending
  OutOfMemory : Ending
  LogFull : Ending
  TooLong : Ending
  -- what was found of a trace, and a line of it that isn't of the form
  Answered : (answer : Verified) → Ending
  NoTrace : (line : ℕ) → Ending

abbrev pub status_of : Ending → ℕ
status_of Reported = 0
status_of (ReportedButFault name) = 5
status_of BadWords = 1
status_of (NoScript line cause) = 2
status_of ReadFault = 3
status_of (ShelfFault name) = 5
status_of (NoDisk name) = 5
status_of (BadSize name) = 5
status_of OutOfMemory = 6
status_of LogFull = 7
status_of TooLong = 8
status_of (Answered found.Yes) = 0
status_of (Answered answer) = 9
status_of (NoTrace line) = 2

-- what is found of a trace, as it is printed
abbrev pub found_text : Verified → List ℕ
found_text found.Yes = codes "yes"
found_text (found.NotEnabled line) = codes "no: line " ++ decimal line
found_text found.NotAtRest = codes "no: not at rest"
found_text found.OtherReport = codes "no: report"

-- the text of an ending, where the report is this one
abbrev pub due_text : List ℕ → Ending → List ℕ
due_text reported Reported = reported
due_text reported (ReportedButFault name) = reported ++ codes "shelf fault " ++ name ++ end_line
due_text reported BadWords =
    codes "usage: geomrun step | run | gen START COUNT | sweep | watch | trace | verify" ++ end_line
due_text reported (NoScript line cause) = codes "line " ++ decimal line ++ codes ": " ++ cause_text cause ++ end_line
due_text reported ReadFault = codes "read fault" ++ end_line
due_text reported (ShelfFault name) = codes "shelf fault " ++ name ++ end_line
due_text reported (NoDisk name) = codes "no disk " ++ name ++ end_line
due_text reported (BadSize name) = codes "bad size " ++ name ++ end_line
due_text reported OutOfMemory = codes "out of memory" ++ end_line
due_text reported LogFull = codes "log full" ++ end_line
due_text reported TooLong = codes "script too long" ++ end_line
due_text reported (Answered answer) = found_text answer ++ end_line
due_text reported (NoTrace line) = codes "line " ++ decimal line ++ codes ": trace" ++ end_line

-- a call that ends so went to rest and wrote its report
abbrev pub IsWhole : Ending → Type 0
IsWhole Reported = ⊤
IsWhole (ReportedButFault name) = ⊤
IsWhole _ = ⊥

-- where the log is there, and where it isn't; where memory ran out both can be
abbrev pub HasLog : Ending → Option (List Entry) → Type 0
HasLog Reported log = IsSome log
HasLog (ReportedButFault name) log = IsSome log
HasLog LogFull log = IsSome log
HasLog OutOfMemory log = ⊤
HasLog _ log = IsNone log

-- A call

-- what a call was given and what came of it: text is what its source gave in it, written what its sink took
pub record Call : Type 0 where
  pub words : List (List ℕ)
  pub text : List ℕ
  pub facts : List (ℕ × ℕ)
  pub status : ℕ
  pub written : List ℕ
  pub log : Option (List Entry)
  pub before : Outside
  pub after : Outside

-- what passed: the source gave the text, which it had left where it tells that, and the sink took what was written
pub record BytesPass (call : Call) : Type 0 where
  pub gave : call.after.source.given ≡ call.before.source.given ++ call.text
  pub had_left : IfSome call.before.source.left
      (λ had. IsSomeAnd call.after.source.left (λ has. had ≡ call.text ++ has))
  pub took : call.after.sink.taken ≡ call.before.sink.taken ++ call.written

-- the order in which one thread makes the steps, or those that are left after the threads
abbrev pub order_of : Mode → StepOrder
order_of SweepMode = sweep_order
order_of _ = fixed_order

-- the text from which the plan comes: for a trace, that before its first marked line
abbrev pub script_of : Mode → List ℕ → List ℕ
script_of (GenMode start count) text = generated start count
script_of VerifyMode text = script_part text
script_of _ text = text

-- what is reported of a log that came of a text: the report; the summary; the report with what a watcher saw; a trace
abbrev pub reported_by : Mode → List ℕ → Plan → List (ℕ × ℕ) → List Entry → List ℕ
reported_by (GenMode start count) text plan facts log = summary plan (opening plan facts) log
reported_by WatchMode text plan facts log =
    report plan (opening plan facts) log ++ view_text plan (opening plan facts) log
reported_by TraceMode text plan facts log =
    trace_text text
    (record { plan = plan; facts = facts; steps = steps_of log; report = report plan (opening plan facts) log })
reported_by _ text plan facts log = report plan (opening plan facts) log

-- the same where there is a log; the endings that report have one
abbrev pub reported : Mode → List ℕ → Plan → List (ℕ × ℕ) → Option (List Entry) → List ℕ
reported mode text plan facts None = []
reported mode text plan facts (Some log) = reported_by mode text plan facts log

-- Steps on the way

-- the words ask for a script, or a trace, to be read
abbrev pub ReadsScript : Call → Mode → Type 0
ReadsScript call (GenMode start count) = ⊥
ReadsScript call mode = Accepts call.words mode

-- the source was read to its end, and that wasn't too much
pub record IsReadWhole (call : Call) (mode : Mode) : Type 0 where
  pub few : length call.text ≤ source_limit mode
  pub ended : IsTrue call.after.source.ended
  pub none_left : IfSome call.after.source.left (λ left. left ≡ [])

abbrev pub WasReadWhole : Call → Mode → Type 0
WasReadWhole call (GenMode start count) = ⊤
WasReadWhole call mode = IsReadWhole call mode

-- the words were accepted and ask for a mesh, and the text is a script with this plan
pub record IsParsed (call : Call) (mode : Mode) (plan : Plan) : Type 0 where
  pub accepted : Accepts call.words mode
  pub mesh : OpensMesh mode
  pub read : WasReadWhole call mode
  pub script : IsScript (script_of mode call.text) plan

-- besides, each disk was there, and the mesh opened with the sizes of the disks
pub record IsOpened (call : Call) (mode : Mode) (plan : Plan) : Type 0 where
  pub parsed : IsParsed call mode plan
  pub there : All (IsThere call.before.shelf) plan.disks
  pub facts_fit : FactsFit plan call.facts
  pub told_sizes : All (HasToldSize call.before.shelf) (zip plan.disks call.facts)

-- taking the disks in header order stopped at the one of this name, of which the fact holds as far as the shelf tells
pub record StopsAt (shelf : ShelfView) (plan : Plan) (name : List ℕ) (Fact : DiskDecl → Images → Type 0) : Type 0 where
  pub front : List DiskDecl
  pub disk : DiskDecl
  pub back : List DiskDecl
  pub in_plan : plan.disks ≡ front ++ disk ∷ back
  pub of_shelf : IsShelf disk.kind
  pub named : disk.name ≡ name
  pub earlier : All (IsThere shelf) front
  pub cause : IfSome shelf.told (Fact disk)

-- the step that is due in the order has no place in the log
abbrev pub NextIsFull : StepOrder → World → List Entry → Type 0
NextIsFull order opened log = IsSomeAnd (order (replay opened log) log) (FoundFull opened log 0)

-- a job found the log full that it had seen
pub record JobWasFull (plan : Plan) (opened : World) (log : List Entry) : Type 0 where
  pub seen : List Entry
  pub seat : ℕ
  pub tried : Step
  pub prefix : IsPrefixOf seen log
  pub by_jobs : All (λ e. e.seat ≢ 0) seen
  pub own_kind : IsOfItsJob plan seat tried
  pub full : FoundFull opened seen seat tried

-- a step that was due had no place: the next in the order, or one that a job tried
abbrev pub DueIsFull : Mode → Plan → World → List Entry → Type 0
DueIsFull mode plan opened log =
    NextIsFull (order_of mode) opened log ⊎ (StartsThreads mode × JobWasFull plan opened log)

pub record LogRanFull (mode : Mode) (plan : Plan) (opened : World) (log : List Entry) : Type 0 where
  pub due : DueIsFull mode plan opened log
  pub nearly : MAX_LOG_ENTRIES - 1 ≤ length log + owed (replay opened log)

-- the first disk in header order that was kept back
abbrev pub first_kept_back : Plan → ShelfView → ShelfView → Option DiskDecl
first_kept_back plan before after =
    find (λ d. is_shelf d.kind && list_any (same_name d.name) (kept_back before after)) plan.disks

-- Causes

-- why a call ends so; want of memory needs no other cause than that the words are accepted
abbrev pub CauseOf : Call → Mode → Plan → Ending → Type 0
CauseOf call mode plan Reported = IsSome call.log × (kept_back call.before.shelf call.after.shelf ≡ [])
CauseOf call mode plan (ReportedButFault name) =
    IsSome call.log
    × IsSomeAnd (first_kept_back plan call.before.shelf call.after.shelf) (λ d. d.name ≡ name)
    × Rose (call.before.shelf.give_faults name) (call.after.shelf.give_faults name)
CauseOf call mode plan BadWords = (other : Mode) → Accepts call.words other → ⊥
CauseOf call mode plan (NoScript line cause) =
    ReadsScript call mode × WasReadWhole call mode × IsFault (script_of mode call.text) line cause
CauseOf call mode plan ReadFault =
    ReadsScript call mode × (length call.text ≤ source_limit mode)
    × FailedAtLast call.before.source.faults call.after.source.faults call.after.source.failed
CauseOf call mode plan (ShelfFault name) =
    IsParsed call mode plan × StopsAt call.before.shelf plan name (λ d images. ⊤)
    × Rose (call.before.shelf.take_faults name) (call.after.shelf.take_faults name)
CauseOf call mode plan (NoDisk name) = IsParsed call mode plan × StopsAt call.before.shelf plan name IsMissing
CauseOf call mode plan (BadSize name) = IsParsed call mode plan × StopsAt call.before.shelf plan name IsBadSize
CauseOf call mode plan OutOfMemory = Accepts call.words mode
CauseOf call mode plan LogFull = IsSomeAnd call.log (LogRanFull mode plan (opening plan call.facts))
CauseOf call mode plan TooLong = ReadsScript call mode × (source_limit mode < length call.text)
CauseOf call mode plan (Answered answer) =
    Accepts call.words VerifyMode × IsReadWhole call VerifyMode × (verified call.text ≡ Ok answer)
CauseOf call mode plan (NoTrace line) =
    Accepts call.words VerifyMode × IsReadWhole call VerifyMode × (verified call.text ≡ Err (InTrace line))

-- how many takes failed in a call that ends so
abbrev pub failed_takes : Ending → ℕ
failed_takes (ShelfFault name) = 1
failed_takes _ = 0

-- the name of the disk that couldn't be had, where the ending says so
abbrev pub missed_by : Ending → List (List ℕ)
missed_by (ShelfFault name) = name ∷ []
missed_by (NoDisk name) = name ∷ []
missed_by (BadSize name) = name ∷ []
missed_by _ = []

-- the name whose take failed, where the ending says so
abbrev pub blamed_by : Ending → Option (List ℕ)
blamed_by (ShelfFault name) = Some name
blamed_by _ = None

-- what a job answered at last
pub data JobAnswer : Type 0 where
  StaysIdle : JobAnswer
  Finished : JobAnswer
  FoundLogFull : JobAnswer
  LacksMemory : JobAnswer

-- a job that found the log full makes the call say so, unless memory ran out; a call alone doesn't show what its jobs
-- answered, so this is a clause of the function that knows it
abbrev pub FullIsTold : List JobAnswer → Ending → Type 0
FullIsTold answers ending = Contains answers FoundLogFull → (ending ≡ LogFull) ⊎ (ending ≡ OutOfMemory)

-- the call ends before a disk is taken
abbrev pub IsBeforeDisks : Ending → Type 0
IsBeforeDisks BadWords = ⊤
IsBeforeDisks (NoScript line cause) = ⊤
IsBeforeDisks ReadFault = ⊤
IsBeforeDisks TooLong = ⊤
IsBeforeDisks (Answered answer) = ⊤
IsBeforeDisks (NoTrace line) = ⊤
IsBeforeDisks _ = ⊥
