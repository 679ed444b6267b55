-- Runs of texts and of sources.
use Rattle.std.proofs.Common.{◌≡◌, ℕ, ◌+◌, ◌≤◌, List, [], ◌++◌, length, Option, Some, None, Result, Ok, Err, refl, ap, subst, IfSome, IsSomeAnd, IsErrOf, rules}
use Rattle.geo_io.specs.Counts.{FailedAtLast}
use Rattle.geo_base.specs.declared.limits.TheConstants.{MAX_TRACE_BYTES}
use Rattle.geo_io.specs.declared.reading.ReadRefusal.{ReadRefusal}
use Rattle.geo_io.specs.declared.reading.ReadRefusal.TheVariants as reads_refused
use Rattle.geo_io.specs.Source.{Gives, GivesAtMost, GivesMany, Goes, IsAtEnd, IsEnd, SourceView}
use Rattle.geo_model.specs.declared.command.Cause.{Cause}
use Rattle.geo_model.specs.World.{Plan}
use Rattle.geo_headline.specs.Modes.{Mode, VerifyMode, source_limit}
use Rattle.geo_headline.specs.declared.verified.Verified.{Verified}
use Rattle.geo_headline.specs.Traces.{TraceFault}
use Rattle.geo_headline.specs.Verifying.{verified}
use Rattle.geo_model.specs.Script.{Fault, script}
use Rattle.geo_headline.specs.Outside.{ShelfView}
use Rattle.geo_headline.specs.Endings.{reported}
use Rattle.geo_script.specs.declared.refusal.ParseRefusal.{ParseRefusal}
use Rattle.geo_script.specs.declared.refusal.ParseRefusal.TheVariants as refusals
use Rattle.geo_script.specs.Draft.{Parses}
use Rattle.geo_verify.specs.declared.refusal.VerifyRefusal.{VerifyRefusal}
use Rattle.geo_verify.specs.declared.refusal.VerifyRefusal.TheVariants as verify_refusals
use Rattle.geo_verify.specs.Replays.{IsVerifyRefusal}
use Rattle.geo_run.specs.declared.due.Due.TheVariants as dues
use Rattle.geo_run.specs.declared.finish.Finish.{Finish}
use Rattle.geo_run.specs.declared.stop.Stop.{Stop}
use Rattle.geo_run.specs.declared.stop.Stop.TheVariants as stops
use Rattle.geo_run.specs.Calls.{EndsEarly, EndsUnread, FinishesSource, FinishesText, FinishesVerified, Gave, IsFoundIn, ReadsPart, ReadsWhole, UnreadCause}
use Rattle.geo_run.specs.Ends.{RunsPlan, entries_in}
use Rattle.geo_run.specs.Stops.{IsDue, ending_by}

-- Texts

-- no log came, and the shelf is as before
pub early_end : (finish : Finish) (stop : Stop) (a : ShelfView) → finish.due ≡ dues.Stopped stop → finish.log ≡ None
    → EndsEarly finish stop a a
early_end finish stop a due log = record { due = due; log = log; shelf = refl }

-- the plan of a text was run
pub text_ran : (text : List ℕ) (mode : Mode) (finish : Finish) (plan : Plan) (a b : ShelfView) → script text ≡ Ok plan
    → RunsPlan mode plan finish.facts.items (entries_in finish.log) (ending_by finish.due) a b
    → IsDue finish.due (reported mode text plan finish.facts.items (entries_in finish.log))
    → FinishesText text mode finish a b
text_ran text mode finish plan a b is ran due = search rules

-- the fault that a reading told
fault_told : (text : List ℕ) (refusal : ParseRefusal) (line : ℕ) (cause : Cause) → Parses (Err refusal) (script text)
    → refusal ≡ refusals.Fault line cause → script text ≡ Err (record { line = line; cause = cause })
fault_told text refusal line cause answer is = subst (λ (r : ParseRefusal). Parses (Err r) (script text)) is answer

-- a text isn't a script
pub text_faulty : (text : List ℕ) (mode : Mode) (finish : Finish) (refusal : ParseRefusal) (line : ℕ) (cause : Cause)
    (a : ShelfView) → Parses (Err refusal) (script text) → refusal ≡ refusals.Fault line cause
    → finish.due ≡ dues.Stopped (stops.NoScript line cause) → finish.log ≡ None → FinishesText text mode finish a a
text_faulty text mode finish refusal line cause a answer is due log = search rules

-- Sources

goes_left : (old new : Option (List ℕ)) (text : List ℕ) → Goes old text new
    → IfSome old (λ had. IsSomeAnd new (λ has. had ≡ text ++ has))
goes_left None new text h = tt
goes_left (Some u) None text h = absurd h
goes_left (Some u) (Some v) text h = h

gives_gave : (s t : SourceView) (text : List ℕ) → Gives s text t
    → Gave s text t
gives_gave s t text h = search rules

none_left : (left : Option (List ℕ)) → IsEnd left → IfSome left (λ l. l ≡ [])
none_left None h = tt
none_left (Some l) h = h

-- A source that is read

-- all that a source gave
pub gave_whole : (limit : ℕ) (s t : SourceView) (text : List ℕ) → Gives s text t → t.faults ≡ s.faults → IsAtEnd t
    → length text ≤ limit → t.reads ≤ s.reads + (limit + 2) → ReadsWhole limit s t text
gave_whole limit s t text gives told end few reads = search rules

gave_part : (limit : ℕ) (s t : SourceView) (text : List ℕ) (stop : Stop) → Gives s text t
    → t.reads ≤ s.reads + (limit + 2) → UnreadCause limit text s t stop → ReadsPart limit s t stop
gave_part limit s t text stop gives reads cause =
    record { text = text; gave = gives_gave s t text gives; reads = reads; cause = cause }

-- a read failed
pub read_fault : {T : Type 0} (limit : ℕ) (s t : SourceView) (refusal : ReadRefusal) → refusal ≡ reads_refused.ReadFault
    → (IsErrOf {T = T} (Err refusal) reads_refused.ReadFault → GivesAtMost s limit t)
    → (IsErrOf {T = T} (Err refusal) reads_refused.ReadFault → FailedAtLast s.faults t.faults t.failed)
    → t.reads ≤ s.reads + (limit + 2) → ReadsPart limit s t stops.ReadFault
read_fault limit s t refusal is taken failed reads =
    let gives : GivesAtMost s limit t = taken (ap (λ e. Err e) is) in
    gave_part limit s t gives.bytes stops.ReadFault gives.gives reads (gives.few, failed (ap (λ e. Err e) is))

-- neither of these is a read that failed
long_is_no_fault : {T : Type 0} (refusal : ReadRefusal) → refusal ≡ reads_refused.TooLong
    → IsErrOf {T = T} (Err refusal) reads_refused.ReadFault → ⊥
long_is_no_fault refusal is fault = cc

lost_is_no_fault : {T : Type 0} (refusal : ReadRefusal) → refusal ≡ reads_refused.NoMemory
    → IsErrOf {T = T} (Err refusal) reads_refused.ReadFault → ⊥
lost_is_no_fault refusal is fault = cc

-- the text is too long
pub read_long : {T : Type 0} (limit : ℕ) (s t : SourceView) (refusal : ReadRefusal) → refusal ≡ reads_refused.TooLong
    → (IsErrOf {T = T} (Err refusal) reads_refused.TooLong → GivesMany s (limit + 1) t)
    → ((IsErrOf {T = T} (Err refusal) reads_refused.ReadFault → ⊥) → t.faults ≡ s.faults)
    → t.reads ≤ s.reads + (limit + 2) → ReadsPart limit s t stops.TooLong
read_long limit s t refusal is taken told reads =
    let gives : GivesMany s (limit + 1) t = taken (ap (λ e. Err e) is) in
    let many : length gives.bytes ≡ limit + 1 = gives.many in
    search rules

-- memory ran out
pub read_lost : {T : Type 0} (limit : ℕ) (s t : SourceView) (refusal : ReadRefusal) → refusal ≡ reads_refused.NoMemory
    → (IsErrOf {T = T} (Err refusal) reads_refused.NoMemory → GivesAtMost s (limit + 1) t)
    → ((IsErrOf {T = T} (Err refusal) reads_refused.ReadFault → ⊥) → t.faults ≡ s.faults)
    → t.reads ≤ s.reads + (limit + 2) → ReadsPart limit s t stops.NoMemory
read_lost limit s t refusal is taken told reads =
    let gives : GivesAtMost s (limit + 1) t = taken (ap (λ e. Err e) is) in
    gave_part limit s t gives.bytes stops.NoMemory gives.gives reads (told (λ fault. lost_is_no_fault refusal is fault))

-- Its text

-- the text of a source that was read to its end was run
pub source_ran : (mode : Mode) (limit : ℕ) (s t : SourceView) (text bytes : List ℕ) (finish : Finish) (a b : ShelfView)
    → limit ≡ source_limit mode → ReadsWhole limit s t text → bytes ≡ text
    → FinishesText bytes mode finish a b → FinishesSource mode s t finish a b
source_ran mode limit s t text bytes finish a b limit_is whole is ends = search rules

-- a source wasn't read to its end
pub source_unread : (mode : Mode) (limit : ℕ) (s t : SourceView) (finish : Finish) (stop : Stop) (a : ShelfView)
    → limit ≡ source_limit mode → ReadsPart limit s t stop → finish.due ≡ dues.Stopped stop → finish.log ≡ None
    → EndsUnread mode s t finish a a
source_unread mode limit s t finish stop a limit_is part due log = search rules

-- Its trace

-- how long a trace may be
pub trace_within : (limit : ℕ) (bytes text : List ℕ) → limit ≡ source_limit VerifyMode → bytes ≡ text
    → length text ≤ limit → length bytes ≤ MAX_TRACE_BYTES
trace_within limit bytes text limit_is is few = search rules

-- what was found of the text of a source
pub source_found : (limit : ℕ) (s t : SourceView) (text bytes : List ℕ) (finish : Finish) (stop : Stop) (a : ShelfView)
    → limit ≡ source_limit VerifyMode → ReadsWhole limit s t text → bytes ≡ text → IsFoundIn (verified bytes) stop
    → finish.due ≡ dues.Stopped stop → finish.log ≡ None → FinishesVerified s t finish a a
source_found limit s t text bytes finish stop a limit_is whole is found due log = search rules

-- what was refused is told
pub script_refused : (answer : Result Verified TraceFault) (refusal : VerifyRefusal) (line : ℕ) (cause : Cause)
    → refusal ≡ verify_refusals.Script line cause → IsVerifyRefusal answer refusal
    → IsFoundIn answer (stops.NoScript line cause)
script_refused answer refusal line cause is refused = subst (λ (r : VerifyRefusal). IsVerifyRefusal answer r) is refused

pub trace_refused : (answer : Result Verified TraceFault) (refusal : VerifyRefusal) (line : ℕ)
    → refusal ≡ verify_refusals.Trace line → IsVerifyRefusal answer refusal → IsFoundIn answer (stops.NoTrace line)
trace_refused answer refusal line is refused = subst (λ (r : VerifyRefusal). IsVerifyRefusal answer r) is refused
