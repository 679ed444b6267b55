-- What a call keeps, from how its run finished.
use Rattle.std.proofs.Common.{◌≡◌, ◌≢◌, ◌⊎◌, ℕ, ◌+◌, ◌≤◌, nat_le, Bool, true, false, List, [], ◌∷◌, ◌++◌, Option, Some, None, Result, Ok, Err, refl, sym, ◌∙◌, ap, subst, inl, inr, arith, bytes_eq, codes, decimal, if◌then◌else◌, IfSome, IsSomeAnd, IsTrue, rules}
use Rattle.std.proofs.Math.Seq.{drop-append_seam, drop-length}
use Rattle.std.specs.Str.Parse.{digits_value}
use Rattle.std.proofs.lemmas.Fmt.{digits_value-decimal}
use Rattle.std.proofs.lemmas.List.{append-nil}
use Rattle.std.proofs.lemmas.Bool.Decides.{nat_tests}
use Rattle.geo_laws_texts.proofs.Texts.{generated_plans}
use Rattle.geo_model.specs.declared.step.Entry.{Entry}
use Rattle.geo_model.specs.World.{World, Plan}
use Rattle.geo_model.specs.Opening.{opening}
use Rattle.geo_model.specs.Script.{Fault, empty_plan, script}
use Rattle.geo_model.specs.Generator.{generated}
use Rattle.geo_headline.specs.Modes.{Mode, StepMode, RunMode, GenMode, SweepMode, WatchMode, TraceMode, VerifyMode, IsMode, Accepts, OpensMesh, TakesNoDisk, source_limit, words_for}
use Rattle.geo_headline.specs.Outside.{ShelfView, SinkView, SourceView}
use Rattle.geo_headline.specs.Endings.{Ending, Reported, ReportedButFault, BadWords, NoScript, ReadFault, ShelfFault, NoDisk, BadSize, OutOfMemory, LogFull, TooLong, Answered, NoTrace, Call, CauseOf, HasLog, IsBeforeDisks, IsParsed, IsReadWhole, IsWhole, ReadsScript, WasReadWhole, missed_by, reported, script_of}
use Rattle.geo_headline.specs.Headline.{IsBadWords, IsGen, ReadAs, ReadsFew}
use Rattle.geo_run.specs.declared.due.Due.TheVariants as dues
use Rattle.geo_run.specs.declared.finish.Finish.{Finish}
use Rattle.geo_run.specs.declared.stop.Stop.{Stop}
use Rattle.geo_run.specs.declared.stop.Stop.TheVariants as stops
use Rattle.geo_run.specs.declared.words.Work.{Work}
use Rattle.geo_run.specs.declared.words.Work.TheVariants as works
use Rattle.geo_run.specs.Calls.{EndsEarly, Finishes, FinishesPlan, FinishesText, Gave, KeepsInside, added_to, call_of, outside_of}
use Rattle.geo_run.specs.Ends.{HasNoShelfDisk, PlanCause, RunsPlan, entries_in}
use Rattle.geo_run.specs.Stops.{ending_by, ending_of}
use Rattle.geo_run.specs.Work.{mode_of}
use Rattle.geo_run.proofs.Digits.{own}
use Rattle.geo_run.proofs.Untaken.{images_stand_same, images_stay_same, lent_still, others_still, told_still}
use Rattle.geo_run.proofs.Visits.{none_failed, none_in_order}
use Rattle.geo_run.proofs.Generated.{generated_in_memory, one_plan, plan_in, plan_or_fault}

-- Modes

-- the mode that a first word asks for, where it stands alone
mode_of_word : List ℕ → Mode
mode_of_word word =
    if bytes_eq word (codes "step") then StepMode
    else if bytes_eq word (codes "run") then RunMode
    else if bytes_eq word (codes "sweep") then SweepMode
    else if bytes_eq word (codes "watch") then WatchMode
    else if bytes_eq word (codes "trace") then TraceMode
    else VerifyMode

-- the mode that words ask for, if they are accepted
mode_asked : List (List ℕ) → Mode
mode_asked [] = StepMode
mode_asked (word ∷ []) = mode_of_word word
mode_asked (word ∷ start ∷ []) = StepMode
mode_asked (word ∷ start ∷ count ∷ rest) = GenMode (digits_value 10 start) (digits_value 10 count)

-- the words of a mode ask for it
asked_back : (mode : Mode) → IsMode mode → mode_asked (words_for mode) ≡ mode
unfolding mode_asked mode_of_word
asked_back (GenMode s c) range =
    ap (λ n. GenMode n (digits_value 10 (decimal c))) (digits_value-decimal own s (omega (arith, range.0)))
    ∙ ap (λ n. GenMode s n) (digits_value-decimal own c (omega (arith, range.1)))
asked_back _ range = refl

-- words are accepted for one mode at most
pub modes_same : (words : List (List ℕ)) (m n : Mode) → Accepts words m → Accepts words n → m ≡ n
modes_same words m n a b =
    sym (asked_back m a.in_range) ∙ ap mode_asked (sym a.spelled ∙ b.spelled) ∙ asked_back n b.in_range

-- What was read

-- a source was read whole or not
empty_or_not : (left : Option (List ℕ)) → IfSome left (λ l. l ≡ []) ⊎ (IfSome left (λ l. l ≡ []) → ⊥)
empty_or_not None = inl tt
empty_or_not (Some []) = inl refl
empty_or_not (Some (b ∷ bs)) = inr (λ e. cc)

ended_or_not : (b : Bool) → IsTrue b ⊎ (IsTrue b → ⊥)
ended_or_not true = inl refl
ended_or_not false = inr (λ e. let bad : false ≡ true = e in cc)

few_or_not : (n m : ℕ) → (n ≤ m) ⊎ (n ≤ m → ⊥)
few_or_not n m = by (nat_le n m) refl
  where
    by : (t : Bool) → nat_le n m ≡ t → (n ≤ m) ⊎ (n ≤ m → ⊥)
    by true e = inl (grind (arith, nat_tests))
    by false e = inr (λ le. absurd (grind (arith, nat_tests)))

read_or_not : (call : Call) (mode : Mode) → IsReadWhole call mode ⊎ (IsReadWhole call mode → ⊥)
read_or_not call mode = search (rules, empty_or_not call.after.source.left)

whole_or_not : (call : Call) (mode : Mode) → WasReadWhole call mode ⊎ (WasReadWhole call mode → ⊥)
whole_or_not call StepMode = read_or_not call StepMode
whole_or_not call RunMode = read_or_not call RunMode
whole_or_not call (GenMode s c) = inl tt
whole_or_not call SweepMode = read_or_not call SweepMode
whole_or_not call WatchMode = read_or_not call WatchMode
whole_or_not call TraceMode = read_or_not call TraceMode
whole_or_not call VerifyMode = read_or_not call VerifyMode

read_as_whole : (call : Call) (mode : Mode) (r : Result Plan Fault) → Accepts call.words mode → WasReadWhole call mode
    → script (script_of mode call.text) ≡ r → ReadAs call mode (plan_in r)
read_as_whole call mode (Ok plan) accepts whole e = search (rules, modes_same call.words)
read_as_whole call mode (Err fault) accepts whole e = search (rules, modes_same call.words)

read_as_part : (call : Call) (mode : Mode) → Accepts call.words mode → (WasReadWhole call mode → ⊥)
    → ReadAs call mode empty_plan
read_as_part call mode accepts unread = search rules

-- a plan by what was read
read_as : (call : Call) (mode : Mode) → Accepts call.words mode → (plan : Plan) × ReadAs call mode plan
read_as call mode accepts =
    search (
      rules,
      whole_or_not call mode,
      read_as_whole call mode (script (script_of mode call.text)) accepts,
      read_as_part call mode accepts,
    )

-- Where no log came

-- a call that ended before a disk was taken
early : (call : Call) (mode : Mode) (plan : Plan) (ending : Ending) → ReadAs call mode plan
    → Gave call.before.source call.text call.after.source → CauseOf call mode plan ending
    → call.log ≡ None → call.after.shelf ≡ call.before.shelf → HasLog ending None → (IsWhole ending → ⊥)
    → missed_by ending ≡ [] → (IsGen mode ⊎ IsBadWords ending → call.after.source ≡ call.before.source)
    → (ending ≢ ReadFault → call.after.source.faults ≡ call.before.source.faults) → ReadsFew call mode
    → KeepsInside call mode plan ending
early call mode plan ending read gave cause none shelf has not_whole none_missed source reads few =
    subst (λ (c : Call). KeepsInside c mode plan ending) is keeps
  where
    -- the same call without a log, over a shelf that is as before
    still : Call
    still = record call { log = None; after = record call.after { shelf = call.before.shelf } }

    is : still ≡ call
    is = search rules

    keeps : KeepsInside still mode plan ending
    keeps =
        search (
          rules,
          lent_still ending call.before.shelf (none_failed ending none_missed),
          told_still ending call.before.shelf (none_failed ending none_missed),
          none_in_order plan ending call.before.shelf none_missed,
          others_still plan call.before.shelf,
          images_stay_same call.before.shelf,
          images_stand_same call.before.shelf,
        )

-- Where a plan was run

-- why a call ends so, from why the run of its plan does
plan_cause : (call : Call) (mode : Mode) (plan : Plan) (ending : Ending) → IsParsed call mode plan
    → PlanCause mode plan (opening plan call.facts) call.log call.before.shelf call.after.shelf ending
    → CauseOf call mode plan ending
plan_cause call mode plan (ShelfFault name) p h = (p, h.0, h.1)
plan_cause call mode plan (NoDisk name) p h = (p, h)
plan_cause call mode plan (BadSize name) p h = (p, h)
plan_cause call mode plan OutOfMemory p h = p.accepted
plan_cause call mode plan Reported p h = h
plan_cause call mode plan (ReportedButFault name) p h = h
plan_cause call mode plan LogFull p h = h
plan_cause call mode plan _ p h = absurd h

-- a run of a plan doesn't end before disks are taken
not_before : (mode : Mode) (plan : Plan) (opened : World) (log : Option (List Entry)) (a b : ShelfView)
    (ending : Ending)
    → PlanCause mode plan opened log a b ending → IsBeforeDisks ending → ⊥
not_before mode plan opened log a b BadWords h before = h
not_before mode plan opened log a b (NoScript line c) h before = h
not_before mode plan opened log a b ReadFault h before = h
not_before mode plan opened log a b TooLong h before = h
not_before mode plan opened log a b (Answered found) h before = h
not_before mode plan opened log a b (NoTrace line) h before = h
not_before mode plan opened log a b _ h before = before

bad_is_before : (ending : Ending) → IsBadWords ending → IsBeforeDisks ending
bad_is_before BadWords h = tt
bad_is_before _ h = absurd h

-- a part of what a mesh did
part_of : (log : Option (List Entry)) (F G : List Entry → Type 0) → ((l : List Entry) → F l → G l) → IfSome log F
    → IfSome log G
part_of None F G f h = tt
part_of (Some l) F G f h = f l h

-- a call whose plan was run
planned : (call : Call) (mode : Mode) (plan : Plan) (ending : Ending) → ReadAs call mode plan
    → Gave call.before.source call.text call.after.source → IsParsed call mode plan
    → RunsPlan mode plan call.facts call.log ending call.before.shelf call.after.shelf
    → (IsGen mode → call.after.source ≡ call.before.source)
    → call.after.source.faults ≡ call.before.source.faults → ReadsFew call mode
    → (TakesNoDisk mode → HasNoShelfDisk plan)
    → KeepsInside call mode plan ending
planned call mode plan ending read gave parsed ran source told few none = search rules

-- How a run finished

-- the log of a finish that has none
no_entries : (finish : Finish) → finish.log ≡ None → entries_in finish.log ≡ None
no_entries finish e = ap (λ l. entries_in l) e

-- a mode that opens a mesh, and takes no disk, makes its script
no_disk_taken : (mode : Mode) → OpensMesh mode → TakesNoDisk mode → IsGen mode
no_disk_taken (GenMode s c) opens none = tt
no_disk_taken VerifyMode opens none = absurd opens
no_disk_taken _ opens none = none

-- the script of a number is the same whatever was read, and so is what is reported of it
pub text_aside : (start count : ℕ) (a b : List ℕ) (plan : Plan) (facts : List (ℕ × ℕ)) (log : Option (List Entry))
    → reported (GenMode start count) a plan facts log ≡ reported (GenMode start count) b plan facts log
text_aside start count a b plan facts None = refl
text_aside start count a b plan facts (Some l) = refl

module _ (words : List (List ℕ)) (finish : Finish) (source source_after : SourceView)
    (shelf shelf_after : ShelfView) where
  -- the call of a run that finished so, whatever is then written
  abbrev pub finished : ℕ → SinkView → SinkView → Call
  finished status sink sink_after =
      call_of words (record { status = status; log = finish.log; facts = finish.facts }) (outside_of source sink shelf)
      (outside_of source_after sink_after shelf_after)

  -- what the source gave
  abbrev text_given : List ℕ
  text_given = added_to source.given source_after.given

  -- whether the source was read whole doesn't depend on what is written
  read_again : (m n : ℕ) (sink other sink_after other_after : SinkView) (mode : Mode)
      → WasReadWhole (finished m sink sink_after) mode → WasReadWhole (finished n other other_after) mode
  read_again m n sink other sink_after other_after (GenMode s c) w = tt
  read_again m n sink other sink_after other_after _ w = search rules

  -- a run that stopped before a disk was taken
  pub stops_early : (mode : Mode) (stop : Stop) → Accepts words mode → EndsEarly finish stop shelf shelf_after
      → Gave source text_given source_after
      → ((status : ℕ) (sink sink_after : SinkView) (plan : Plan)
      → CauseOf (finished status sink sink_after) mode plan (ending_of stop))
      → HasLog (ending_of stop) None → (IsWhole (ending_of stop) → ⊥) → missed_by (ending_of stop) ≡ []
      → (IsGen mode ⊎ IsBadWords (ending_of stop) → source_after ≡ source)
      → (ending_of stop ≢ ReadFault → source_after.faults ≡ source.faults)
      → source_after.reads ≤ source.reads + (source_limit mode + 2)
      → Finishes words finish source source_after shelf shelf_after
  stops_early mode stop accepts ends gave cause has not_whole none_missed same told few = record {
    mode = mode;
    plan = reading.0;
    due = search rules;
    keeps = λ status sink sink_after.
        subst (λ (ending : Ending). KeepsInside (finished status sink sink_after) mode reading.0 ending)
        (sym (ap ending_by ends.due))
        (early (finished status sink sink_after) mode reading.0 (ending_of stop) (again status sink sink_after) gave
        (cause status sink sink_after reading.0) (no_entries finish ends.log) ends.shelf has not_whole none_missed same
        told few);
  }
    where
      none_yet : SinkView
      none_yet = record { taken = []; held = None; faults = 0; failed = false }

      reading : (plan : Plan) × ReadAs (finished 0 none_yet none_yet) mode plan
      reading = read_as (finished 0 none_yet none_yet) mode accepts

      -- what was read doesn't depend on what is written
      again : (status : ℕ) (sink sink_after : SinkView) → ReadAs (finished status sink sink_after) mode reading.0
      again status sink sink_after = record {
        mode_is = reading.1.mode_is;
        plan_is = λ w. reading.1.plan_is (read_again status 0 sink none_yet sink_after none_yet mode w);
        no_plan = reading.1.no_plan;
        not_read = search rules;
      }

  -- a run whose plan was run
  runs_text : (mode : Mode) (plan : Plan) → OpensMesh mode → Accepts words mode
      → script (script_of mode text_given) ≡ Ok plan → Gave source text_given source_after
      → FinishesPlan text_given (Ok plan) mode finish shelf shelf_after
      → ((status : ℕ) (sink sink_after : SinkView) → WasReadWhole (finished status sink sink_after) mode)
      → (IsGen mode → source_after ≡ source) → source_after.faults ≡ source.faults
      → source_after.reads ≤ source.reads + (source_limit mode + 2)
      → (IsGen mode → HasNoShelfDisk plan) → Finishes words finish source source_after shelf shelf_after
  runs_text mode plan opens accepts is gave ends whole same told few none = record {
    mode = mode;
    plan = plan;
    due = ends.1;
    keeps = λ status sink sink_after.
        planned (finished status sink sink_after) mode plan (ending_by finish.due)
        (read_as_whole (finished status sink sink_after) mode (Ok plan) accepts (whole status sink sink_after) is) gave
        (record { accepted = accepts; mesh = opens; read = whole status sink sink_after; script = is }) ends.0 same
        told few (λ no_disk. none (no_disk_taken mode opens no_disk));
  }

  -- the end of a text by its reading
  pub of_text : (mode : Mode) (r : Result Plan Fault) → OpensMesh mode → Accepts words mode
      → script (script_of mode text_given) ≡ r → Gave source text_given source_after
      → FinishesPlan text_given r mode finish shelf shelf_after
      → ((status : ℕ) (sink sink_after : SinkView) → WasReadWhole (finished status sink sink_after) mode)
      → (IsGen mode → source_after ≡ source) → source_after.faults ≡ source.faults
      → source_after.reads ≤ source.reads + (source_limit mode + 2)
      → (IsGen mode → (plan : Plan) → r ≡ Ok plan → HasNoShelfDisk plan)
      → (IsGen mode → (fault : Fault) → r ≡ Err fault → ⊥)
      → (IsGen mode ⊎ ((status : ℕ) (sink sink_after : SinkView)
      → ReadsScript (finished status sink sink_after) mode))
      → Finishes words finish source source_after shelf shelf_after
  of_text mode (Ok plan) opens accepts is gave ends whole same told few none no_fault reads =
      runs_text mode plan opens accepts is gave ends whole same told few (λ gen. none gen plan refl)
  of_text mode (Err fault) opens accepts is gave ends whole same told few none no_fault (inl gen) = search rules
  of_text mode (Err fault) opens accepts is gave ends whole same told few none no_fault (inr reads) =
      stops_early mode (stops.NoScript fault.line fault.cause) accepts ends gave
      (λ status sink sink_after plan. (reads status sink sink_after, whole status sink sink_after, is)) refl (λ w. w)
      refl (λ which. elim which [ inl gen ↦ same gen | inr bad ↦ absurd bad ]) (λ other. told) few

  -- memory ran out before the mesh opened
  pub no_memory : (mode : Mode) → Accepts words mode → EndsEarly finish stops.NoMemory shelf shelf_after
      → Gave source text_given source_after
      → (IsGen mode → source_after ≡ source) → source_after.faults ≡ source.faults
      → source_after.reads ≤ source.reads + (source_limit mode + 2)
      → Finishes words finish source source_after shelf shelf_after
  no_memory mode accepts ends gave same told few =
      stops_early mode stops.NoMemory accepts ends gave (λ status sink sink_after plan. accepts) tt (λ w. w) refl
      (λ which. elim which [ inl gen ↦ same gen | inr bad ↦ absurd bad ]) (λ other. told) few

-- the text that a source gave is what came behind what it had given
pub text_is : (source source_after : SourceView) (text : List ℕ) → Gave source text source_after
    → text ≡ added_to source.given source_after.given
text_is source source_after text gave = search (rules, drop-append_seam source.given text)

-- a source that wasn't read gave nothing
pub gave_nothing : (source : SourceView) → Gave source (added_to source.given source.given) source
gave_nothing source = record {
  given = sym (ap (λ bs. source.given ++ bs) (drop-length source.given) ∙ append-nil source.given);
  had_left = by source.left (added_to source.given source.given) (drop-length source.given);
}
  where
    by : (left : Option (List ℕ)) (text : List ℕ) → text ≡ []
        → IfSome left (λ had. IsSomeAnd left (λ has. had ≡ text ++ has))
    by None text e = tt
    by (Some l) text e = sym (ap (λ bs. bs ++ l) e)

-- and was read no more often than it may be
not_read : (source : SourceView) (mode : Mode) → source.reads ≤ source.reads + (source_limit mode + 2)
not_read source mode = omega arith

-- `gen START COUNT`
pub finishes_generated : (words : List (List ℕ)) (finish : Finish) (source : SourceView) (shelf shelf_after : ShelfView)
    (start count : ℕ) → Accepts words (GenMode start count)
    → FinishesText (generated start count) (GenMode start count) finish shelf shelf_after
    → Finishes words finish source source shelf shelf_after
finishes_generated words finish source shelf shelf_after start count accepts (inl out) =
    no_memory words finish source source shelf shelf_after (GenMode start count) accepts out (gave_nothing source)
    (λ gen. refl) refl (not_read source (GenMode start count))
finishes_generated words finish source shelf shelf_after start count accepts (inr done) =
    of_text words finish source source shelf shelf_after (GenMode start count) (script (generated start count))
    tt accepts refl (gave_nothing source) (aside (script (generated start count)) done) (λ status sink sink_after. tt)
    (λ gen. refl) refl (not_read source (GenMode start count)) (λ gen plan e. generated_in_memory start count accepts.in_range plan e)
    (λ gen fault e. no_fault fault e)
    (inl tt)
  where
    aside : (r : Result Plan Fault)
        → FinishesPlan (generated start count) r (GenMode start count) finish shelf shelf_after
        → FinishesPlan (added_to source.given source.given) r (GenMode start count) finish shelf shelf_after
    aside (Ok plan) h = search rules
    aside (Err fault) h = h

    no_fault : (fault : Fault) → script (generated start count) ≡ Err fault → ⊥
    no_fault fault e =
        let made = generated_plans.scripts start count accepts.in_range in
        plan_or_fault made.0 fault (script (generated start count)) made.1 e

-- nothing is a script that does nothing
read_nothing : (text : List ℕ) → text ≡ [] → script text ≡ Ok empty_plan
unfolding script
read_nothing text e = ap script e

-- other words
pub finishes_none : (words : List (List ℕ)) (finish : Finish) (source : SourceView) (shelf : ShelfView)
    → ((mode : Mode) → Accepts words mode → ⊥) → finish.due ≡ dues.Stopped stops.BadWords → finish.log ≡ None
    → Finishes words finish source source shelf shelf
finishes_none words finish source shelf none due_is log_is = record {
  mode = StepMode;
  plan = empty_plan;
  due = search rules;
  keeps = search (rules, ap ending_by due_is, early, reading, gave_nothing source, not_read source StepMode, no_entries finish log_is);
}
  where
    nothing : added_to source.given source.given ≡ []
    nothing = drop-length source.given

    reading : (call : Call) → call.words ≡ words → call.text ≡ added_to source.given source.given
        → ReadAs call StepMode empty_plan
    reading call e t = record {
      mode_is = λ m a. absurd (none m (subst (λ (ws : List (List ℕ)). Accepts ws m) e a));
      plan_is = λ w p is. one_plan p empty_plan (script call.text) is (read_nothing call.text (t ∙ nothing));
      no_plan = λ f is. refl;
      not_read = λ unread. refl;
    }

-- What the words ask for

-- the words ask for `gen START COUNT`, whose script was run
pub generation_finishes : (words : List (List ℕ)) (work : Work) (finish : Finish) (source : SourceView)
    (shelf shelf_after : ShelfView) (start count : ℕ) → work ≡ works.Generate start count → Accepts words (mode_of work)
    → FinishesText (generated start count) (GenMode start count) finish shelf shelf_after
    → Finishes words finish source source shelf shelf_after
generation_finishes words work finish source shelf shelf_after start count is accepts f =
    finishes_generated words finish source shelf shelf_after start count
    (subst (λ (w : Work). Accepts words (mode_of w)) is accepts) f
