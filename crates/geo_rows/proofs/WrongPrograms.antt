-- The wrong programs are refused.
use Rattle.std.specs.Prelude.{◌≡◌, ◌≢◌, ℕ, ◌+◌, ◌-◌, ◌^◌, ◌≤◌, ◌<◌, min, Bool, List, ◌∷◌, ◌++◌, length, Option, Some, None, Ok, Err, IsSome, IsSomeAnd, IfSome, All}
use Rattle.std.proofs.Common.{sym, ◌∙◌, ap, subst, arith}
use Rattle.std.proofs.Math.Seq.{get_or-append_seam}
use Rattle.std.proofs.lemmas.List.{length-append}
use Rattle.geo_model.proofs.OpeningLemmas.{opening_owes}
use Rattle.geo_base.specs.Faults.{Rose}
use Rattle.geo_io.specs.Counts.{FailedAtLast}
use Rattle.geo_base.specs.Images.{Images, IsDiskSize}
use Rattle.geo_base.specs.declared.limits.TheConstants.{MAX_LOG_ENTRIES}
use Rattle.geo_model.specs.declared.command.DiskDecl.{DiskDecl}
use Rattle.geo_model.specs.declared.step.Entry.{Entry}
use Rattle.geo_model.specs.World.{World, Plan}
use Rattle.geo_model.specs.Opening.{opening}
use Rattle.geo_model.specs.Log.{owed, replay}
use Rattle.geo_model.specs.declared.command.Cause.{Cause}
use Rattle.geo_model.specs.Script.{Fault, IsScript, IsFault}
use Rattle.geo_headline.specs.declared.verified.Verified.{Verified}
use Rattle.geo_headline.specs.declared.verified.Verified.TheVariants as found
use Rattle.geo_headline.specs.Modes.{Mode, GenMode, VerifyMode, Accepts, OpensMesh, source_limit}
use Rattle.geo_headline.specs.Outside.{ShelfView, IsShelf, HasImage, IsMissing, IsBadSize}
use Rattle.geo_headline.specs.Endings.{Call, Ending, Reported, ReportedButFault, BadWords, NoScript, ReadFault, ShelfFault, NoDisk, BadSize, LogFull, TooLong, Answered, NoTrace, status_of, HasLog, CauseOf, LogRanFull, ReadsScript, script_of}
use Rattle.geo_headline.specs.Traces.{TraceFault, InScript, InTrace, read_after, read_trace, script_part}
use Rattle.geo_headline.specs.Verifying.{found_read, verified}
use Rattle.geo_headline.specs.Headline.{KeepsAll}
use Rattle.geo_rows.specs.WrongPrograms.{IsRefused, AnswersUsage, AnswersFaultOfScript, AnswersFaultOfTrace, AnswersReadFault, AnswersWriteFault, AnswersDiskFault, AnswersFullWithoutLog, AnswersFullAtOnce, AnswersFullTooEarly, AnswersTooLong, AnswersNo, SaysYes, RunsTrace}

-- at a status other than 4 the ending has that status
pub ends : (n : ℕ) (call : Call) (mode : Mode) (plan : Plan) (ending : Ending) → KeepsAll call mode plan ending
    → n ≢ 4 → call.status ≡ n
    → status_of ending ≡ n
ends n call mode plan ending kept other status =
    sym ((kept.texts.prints.whole (λ four. other (sym status ∙ four))).status) ∙ status

-- what was found of a trace has status 0 or 9
pub answered : {A : Type 0} (n : ℕ) (found : Verified) → status_of (Answered found) ≡ n → n ≢ 0 → n ≢ 9 → A
answered n found.Yes s zero nine = absurd (zero (sym s))
answered n _ s zero nine = absurd (nine (sym s))

-- what was found is told only where it was asked
pub answers_verify : (call : Call) (mode : Mode) (plan : Plan) (found : Verified)
    → KeepsAll call mode plan (Answered found) → VerifyMode ≡ mode
answers_verify call mode plan found kept = kept.texts.read_as.mode_is VerifyMode kept.ends.cause.0

by_usage : (call : Call) (mode : Mode) (plan : Plan) (ending : Ending) → status_of ending ≡ 1
    → ((m : Mode) × Accepts call.words m)
    → CauseOf call mode plan ending → ⊥
by_usage call mode plan BadWords s words cause = cause words.0 words.1
by_usage call mode plan (Answered found) s words cause =
    answered 1 found s (λ e. omega (arith, e)) (λ e. omega (arith, e))
by_usage call mode plan _ s words cause = omega (arith, s)

pub usage-refused : IsRefused AnswersUsage
usage-refused call mode plan ending wrong kept =
    by_usage call mode plan ending (ends 1 call mode plan ending kept (λ e. omega (arith, e)) wrong.0)
    wrong.1 kept.ends.cause

-- a script has no fault, and no trace has one
no_fault : (text : List ℕ) (p : Plan) (line : ℕ) (c : Cause) → IsScript text p → IsFault text line c → ⊥
no_fault text p line c good bad = plan_or_fault p (record { line = line; cause = c }) (sym good ∙ bad)
  where
    plan_or_fault : (plan : Plan) (fault : Fault) → Ok plan ≡ Err fault → ⊥
    plan_or_fault plan fault both = cc

no_trace_fault : (text : List ℕ) (found : Verified) (fault : TraceFault) → verified text ≡ Ok found
    → verified text ≡ Err fault → ⊥
no_trace_fault text found fault good bad =
    let both : Ok found ≡ Err fault = sym good ∙ bad in
    let no : ⊥ = cc in no

-- a fault of the script in a trace is a fault of the trace
script_fault : (text : List ℕ) (line : ℕ) (c : Cause) → IsFault (script_part text) line c
    → verified text ≡ Err (InScript line c)
unfolding verified read_trace
script_fault text line c bad = ap (λ r. found_read (read_after text r)) bad

-- in a script that was asked for
by_script : (call : Call) (mode : Mode) (p : Plan) (line : ℕ) (c : Cause) → (Accepts call.words VerifyMode → ⊥)
    → IsScript call.text p → ReadsScript call mode → IsFault (script_of mode call.text) line c → ⊥
by_script call (GenMode start count) p line c other good reads bad = reads
by_script call VerifyMode p line c other good reads bad = other reads
by_script call _ p line c other good reads bad = no_fault call.text p line c good bad

by_fault : (call : Call) (mode : Mode) (plan : Plan) (ending : Ending) (p : Plan) → status_of ending ≡ 2
    → (Accepts call.words VerifyMode → ⊥) → IsScript call.text p
    → CauseOf call mode plan ending → ⊥
by_fault call mode plan (NoScript line c) p s other good cause =
    by_script call mode p line c other good cause.0 cause.2
by_fault call mode plan (Answered found) p s other good cause = other cause.0
by_fault call mode plan (NoTrace line) p s other good cause = other cause.0
by_fault call mode plan _ p s other good cause = omega (arith, s)

pub fault_of_script-refused : IsRefused AnswersFaultOfScript
fault_of_script-refused call mode plan ending wrong kept =
    by_fault call mode plan ending wrong.2.0 (ends 2 call mode plan ending kept (λ e. omega (arith, e)) wrong.0)
    wrong.1 wrong.2.1 kept.ends.cause

-- of a trace
by_trace : (call : Call) (plan : Plan) (ending : Ending) (found : Verified) → status_of ending ≡ 2
    → verified call.text ≡ Ok found → CauseOf call VerifyMode plan ending → ⊥
by_trace call plan (NoScript line c) found s good cause =
    no_trace_fault call.text found (InScript line c) good (script_fault call.text line c cause.2)
by_trace call plan (Answered other) found s good cause =
    answered 2 other s (λ e. omega (arith, e)) (λ e. omega (arith, e))
by_trace call plan (NoTrace line) found s good cause = no_trace_fault call.text found (InTrace line) good cause.2
by_trace call plan _ found s good cause = omega (arith, s)

pub fault_of_trace-refused : IsRefused AnswersFaultOfTrace
fault_of_trace-refused call mode plan ending wrong kept =
    by_trace call plan ending wrong.2.0 (ends 2 call mode plan ending kept (λ e. omega (arith, e)) wrong.0)
    wrong.2.1
    (subst (λ m. CauseOf call m plan ending) (sym (kept.texts.read_as.mode_is VerifyMode wrong.1)) kept.ends.cause)

-- a call that failed is a fault more
failed_rose : (before now : ℕ) (failed : Bool) → FailedAtLast before now failed → Rose before now
failed_rose before now failed f =
    let e : now ≡ min (before + 1) (2 ^ 64 - 1) = f.one in omega (arith, e)

by_read : (call : Call) (mode : Mode) (plan : Plan) (ending : Ending) → status_of ending ≡ 3
    → (Rose call.before.source.faults call.after.source.faults → ⊥) → CauseOf call mode plan ending → ⊥
by_read call mode plan ReadFault s none cause = none (failed_rose _ _ _ cause.2)
by_read call mode plan (Answered found) s none cause =
    answered 3 found s (λ e. omega (arith, e)) (λ e. omega (arith, e))
by_read call mode plan _ s none cause = omega (arith, s)

pub read_fault-refused : IsRefused AnswersReadFault
read_fault-refused call mode plan ending wrong kept =
    by_read call mode plan ending (ends 3 call mode plan ending kept (λ e. omega (arith, e)) wrong.0) wrong.1
    kept.ends.cause

pub write_fault-refused : IsRefused AnswersWriteFault
write_fault-refused call mode plan ending wrong kept =
    wrong.1 (failed_rose _ _ _ (kept.texts.prints.cut_off wrong.0).fault)

by_log : (call : Call) (ending : Ending) → status_of ending ≡ 7 → call.log ≡ None → HasLog ending call.log → ⊥
by_log call LogFull s e has = let no : IsSome {T = List Entry} None = rw e at has in (let bad : ⊥ = cc in bad)
by_log call (Answered found) s e has = answered 7 found s (λ e. omega (arith, e)) (λ e. omega (arith, e))
by_log call _ s e has = omega (arith, s)

pub full_without_log-refused : IsRefused AnswersFullWithoutLog
full_without_log-refused call mode plan ending wrong kept =
    by_log call ending (ends 7 call mode plan ending kept (λ e. omega (arith, e)) wrong.0) wrong.1 kept.ends.has_log

-- a full log comes from an ending that has its cause
by_full : (call : Call) (mode : Mode) (plan : Plan) (ending : Ending) → status_of ending ≡ 7
    → CauseOf call mode plan ending
    → IsSomeAnd call.log (LogRanFull mode plan (opening plan call.facts))
by_full call mode plan LogFull s cause = cause
by_full call mode plan (Answered found) s cause = answered 7 found s (λ e. omega (arith, e)) (λ e. omega (arith, e))
by_full call mode plan _ s cause = absurd (omega (arith, s))

ran_full : (call : Call) (mode : Mode) (plan : Plan) (ending : Ending) → call.status ≡ 7
    → KeepsAll call mode plan ending
    → IsSomeAnd call.log (LogRanFull mode plan (opening plan call.facts))
ran_full call mode plan ending status kept =
    by_full call mode plan ending (ends 7 call mode plan ending kept (λ e. omega (arith, e)) status) kept.ends.cause

pub full_at_once-refused : IsRefused AnswersFullAtOnce
full_at_once-refused call mode plan ending wrong kept =
    let full = rw wrong.1 at (ran_full call mode plan ending wrong.0 kept) in
    omega (arith, full.nearly, opening_owes plan call.facts)

too_early : (mode : Mode) (plan : Plan) (opened : World) (log : Option (List Entry))
    → IsSomeAnd log (LogRanFull mode plan opened)
    → IfSome log (λ l. length l + owed (replay opened l) < MAX_LOG_ENTRIES - 1) → ⊥
too_early mode plan opened None full room = full
too_early mode plan opened (Some log) full room = omega (arith, full.nearly, room)

pub full_too_early-refused : IsRefused AnswersFullTooEarly
full_too_early-refused call mode plan ending wrong kept =
    too_early mode plan (opening plan call.facts) call.log (ran_full call mode plan ending wrong.0 kept) (wrong.1 plan)

-- where a text is read, the words are accepted
pub accepted_by : (call : Call) (mode : Mode) → ReadsScript call mode → Accepts call.words mode
accepted_by call (GenMode start count) reads = absurd reads
accepted_by call _ reads = reads

by_length : (call : Call) (mode : Mode) (plan : Plan) (ending : Ending) → status_of ending ≡ 8
    → ((m : Mode) → Accepts call.words m → length call.text ≤ source_limit m)
    → CauseOf call mode plan ending → ⊥
by_length call mode plan TooLong s short cause =
    let few : length call.text ≤ source_limit mode = short mode (accepted_by call mode cause.0) in
    let long : source_limit mode < length call.text = cause.1 in
    omega (arith, few, long)
by_length call mode plan (Answered found) s short cause =
    answered 8 found s (λ e. omega (arith, e)) (λ e. omega (arith, e))
by_length call mode plan _ s short cause = omega (arith, s)

pub too_long-refused : IsRefused AnswersTooLong
too_long-refused call mode plan ending wrong kept =
    by_length call mode plan ending (ends 8 call mode plan ending kept (λ e. omega (arith, e)) wrong.0)
    wrong.1 kept.ends.cause

-- only what was found of a trace has status 9
by_no : (call : Call) (mode : Mode) (plan : Plan) (ending : Ending) → status_of ending ≡ 9
    → ((answer : Verified) → verified call.text ≡ Ok answer → answer ≡ found.Yes)
    → CauseOf call mode plan ending → ⊥
by_no call mode plan (Answered found) s only cause =
    let is : status_of (Answered found) ≡ 0 = ap (λ f. status_of (Answered f)) (only found cause.2) in
    omega (arith, s, is)
by_no call mode plan _ s only cause = omega (arith, s)

pub no-refused : IsRefused AnswersNo
no-refused call mode plan ending wrong kept =
    by_no call mode plan ending (ends 9 call mode plan ending kept (λ e. omega (arith, e)) wrong.0)
    wrong.1 kept.ends.cause

-- taking the disks stopped at a disk of the plan
stopped_at : (P : DiskDecl → Type 0) (plan : Plan) (front back : List DiskDecl) (disk : DiskDecl)
    → plan.disks ≡ front ++ disk ∷ back → All P plan.disks → P disk
stopped_at P plan front back disk is all =
    let here : All P (front ++ disk ∷ back) = subst (All P) is all in
    subst P (get_or-append_seam front disk back disk)
    (here (length front) disk (omega (arith, length-append front (disk ∷ back))))

there_or_missing : (image : Option (List ℕ)) (P : List ℕ → Type 0) → IsSomeAnd image P → image ≡ None → ⊥
there_or_missing None P has none = has
there_or_missing (Some bytes) P has none = let no : ⊥ = cc in no

there_or_bad : (image : Option (List ℕ)) (P : List ℕ → Type 0) → IsSomeAnd image P
    → IsSomeAnd image (λ bytes. P bytes → ⊥) → ⊥
there_or_bad None P has bad = has
there_or_bad (Some bytes) P has bad = bad has

-- what the shelf tells of the disk at which taking stopped
told_cause : (shelf : ShelfView) (had : Images) (Fact : Images → Type 0) → shelf.told ≡ Some had
    → IfSome shelf.told Fact → Fact had
told_cause shelf had Fact told cause = rw told at cause

by_disk : (call : Call) (mode : Mode) (plan : Plan) (ending : Ending) → status_of ending ≡ 5 → AnswersDiskFault call
    → CauseOf call mode plan ending → ⊥
by_disk call mode plan (ReportedButFault name) s wrong cause = wrong.gives name cause.2
by_disk call mode plan (ShelfFault name) s wrong cause = wrong.takes name cause.2
by_disk call mode plan (NoDisk name) s wrong cause =
    let stop = cause.1 in
    let has : HasImage stop.disk wrong.had =
    stopped_at (λ d. IsShelf d.kind → HasImage d wrong.had) plan stop.front stop.back stop.disk stop.in_plan
    (wrong.there mode plan cause.0.script) stop.of_shelf in
    there_or_missing (wrong.had stop.disk.name) (λ bytes. IsDiskSize stop.disk.sector (length bytes)) has
    (told_cause call.before.shelf wrong.had (IsMissing stop.disk) wrong.told stop.cause)
by_disk call mode plan (BadSize name) s wrong cause =
    let stop = cause.1 in
    let has : HasImage stop.disk wrong.had =
    stopped_at (λ d. IsShelf d.kind → HasImage d wrong.had) plan stop.front stop.back stop.disk stop.in_plan
    (wrong.there mode plan cause.0.script) stop.of_shelf in
    there_or_bad (wrong.had stop.disk.name) (λ bytes. IsDiskSize stop.disk.sector (length bytes)) has
    (told_cause call.before.shelf wrong.had (IsBadSize stop.disk) wrong.told stop.cause)
by_disk call mode plan (Answered found) s wrong cause =
    answered 5 found s (λ e. omega (arith, e)) (λ e. omega (arith, e))
by_disk call mode plan _ s wrong cause = omega (arith, s)

pub disk_fault-refused : IsRefused AnswersDiskFault
disk_fault-refused call mode plan ending wrong kept =
    by_disk call mode plan ending (ends 5 call mode plan ending kept (λ e. omega (arith, e)) wrong.status)
    wrong kept.ends.cause

-- Traces

-- where a trace is to be verified no mesh was run
pub no_log : (call : Call) (mode : Mode) (plan : Plan) (ending : Ending) → Accepts call.words VerifyMode
    → KeepsAll call mode plan ending → IsSome call.log → ⊥
no_log call mode plan ending words kept some =
    subst OpensMesh (sym (kept.texts.read_as.mode_is VerifyMode words)) (kept.ends.is_opened some).parsed.mesh

by_yes : (call : Call) (mode : Mode) (plan : Plan) (ending : Ending) → status_of ending ≡ 0
    → (IsSome call.log → ⊥) → (verified call.text ≡ Ok found.Yes → ⊥)
    → CauseOf call mode plan ending → ⊥
by_yes call mode plan Reported s none not_yes cause = none cause.0
by_yes call mode plan (Answered found.Yes) s none not_yes cause = not_yes cause.2
by_yes call mode plan _ s none not_yes cause = omega (arith, s)

pub yes-refused : IsRefused SaysYes
yes-refused call mode plan ending wrong kept =
    by_yes call mode plan ending (ends 0 call mode plan ending kept (λ e. omega (arith, e)) wrong.status)
    (no_log call mode plan ending wrong.words kept) wrong.false_trace kept.ends.cause

pub run-refused : IsRefused RunsTrace
run-refused call mode plan ending wrong kept = no_log call mode plan ending wrong.words kept wrong.ran

-- what `wrong_verdicts_are_refused` says
pub ruleset wrong_verdicts_are_refused = (yes-refused, run-refused)

-- what `constant_answers_are_refused` says
pub ruleset constant_answers_are_refused = (
  usage-refused,
  fault_of_script-refused,
  fault_of_trace-refused,
  read_fault-refused,
  write_fault-refused,
  disk_fault-refused,
  full_without_log-refused,
  full_at_once-refused,
  full_too_early-refused,
  too_long-refused,
  no-refused,
)
