-- What a call keeps whose source was read: its script was run, or its trace verified.
use Rattle.std.proofs.Common.{◌≡◌, ◌⊎◌, ℕ, ◌+◌, ◌≤◌, List, Result, Ok, Err, refl, ap, subst, inl, inr, rules}
use Rattle.geo_model.specs.declared.command.Cause.{Cause}
use Rattle.geo_model.specs.World.{Plan}
use Rattle.geo_model.specs.Script.{Fault, IsFault, script}
use Rattle.geo_headline.specs.Modes.{Mode, GenMode, VerifyMode, Accepts, OpensMesh, source_limit}
use Rattle.geo_headline.specs.Outside.{ShelfView, SinkView, SourceView}
use Rattle.geo_headline.specs.Traces.{InScript, ReadTrace, Reading, TraceFault, read_after, read_trace, script_part, told_line}
use Rattle.geo_headline.specs.Verifying.{found_of, found_read, verified}
use Rattle.geo_headline.specs.Endings.{Call, IsReadWhole, ReadsScript, WasReadWhole, script_of}
use Rattle.geo_headline.specs.Headline.{IsGen}
use Rattle.geo_run.specs.declared.finish.Finish.{Finish}
use Rattle.geo_run.specs.declared.stop.Stop.{Stop}
use Rattle.geo_run.specs.declared.stop.Stop.TheVariants as stops
use Rattle.geo_run.specs.declared.words.Work.{Work}
use Rattle.geo_run.specs.declared.words.Work.TheVariants as works
use Rattle.geo_run.specs.Calls.{EndsEarly, EndsFound, EndsRead, EndsUnread, Finishes, FinishesSource, FinishesText, FinishesVerified, Gave, IsFoundIn, ReadsWhole, UnreadCause, added_to}
use Rattle.geo_run.specs.Work.{mode_of}
use Rattle.geo_run.proofs.Keeping.{finished, no_memory, of_text, stops_early, text_is}

-- What was read

-- a source gave what came behind what it had given
gave_added : (source source_after : SourceView) (text : List ℕ) → Gave source text source_after
    → Gave source (added_to source.given source_after.given) source_after
gave_added source source_after text gave = search (rules, text_is source source_after text gave)

read_whole : (call : Call) (mode : Mode) (text : List ℕ) → text ≡ call.text
    → ReadsWhole (source_limit mode) call.before.source call.after.source text → IsReadWhole call mode
read_whole call mode text e whole = search rules

-- where the source gives the script, it is read
was_read_whole : (call : Call) (mode : Mode) → IsReadWhole call mode → WasReadWhole call mode
was_read_whole call (GenMode s c) w = tt
was_read_whole call _ w = w

reads_script : (call : Call) (mode : Mode) → (IsGen mode → ⊥) → Accepts call.words mode → ReadsScript call mode
reads_script call (GenMode s c) not_gen accepts = absurd (not_gen tt)
reads_script call _ not_gen accepts = accepts

-- where it gives a script that is run, the text is that script
script_read : (mode : Mode) (text : List ℕ) → OpensMesh mode → (IsGen mode → ⊥) → script_of mode text ≡ text
script_read (GenMode s c) text opens not_gen = absurd (not_gen tt)
script_read VerifyMode text opens not_gen = absurd opens
script_read _ text opens not_gen = refl

-- A source that wasn't read to its end

module _ (words : List (List ℕ)) (mode : Mode) (finish : Finish) (source source_after : SourceView)
    (shelf shelf_after : ShelfView) (accepts : Accepts words mode) (not_gen : IsGen mode → ⊥) where
  -- what the source gave
  abbrev text_given : List ℕ
  text_given = added_to source.given source_after.given

  -- the call, whatever is then written
  abbrev call_then : ℕ → SinkView → SinkView → Call
  call_then status sink sink_after = finished words finish source source_after shelf shelf_after status sink sink_after

  no_gen : {A : Type 0} → IsGen mode ⊎ ⊥ → A
  no_gen (inl gen) = absurd (not_gen gen)
  no_gen (inr bad) = absurd bad

  asked : (status : ℕ) (sink sink_after : SinkView) → ReadsScript (call_then status sink sink_after) mode
  asked status sink sink_after = reads_script (call_then status sink sink_after) mode not_gen accepts

  unread_stops : Gave source text_given source_after
      → source_after.reads ≤ source.reads + (source_limit mode + 2) → (stop : Stop)
      → UnreadCause (source_limit mode) text_given source source_after stop
      → EndsEarly finish stop shelf shelf_after → Finishes words finish source source_after shelf shelf_after
  unread_stops gave few stops.ReadFault cause early =
      stops_early words finish source source_after shelf shelf_after mode stops.ReadFault accepts early gave
      (λ status sink sink_after plan. (asked status sink sink_after, cause.0, cause.1)) refl (λ w. w) refl no_gen
      (λ other. absurd (other refl)) few
  unread_stops gave few stops.TooLong cause early =
      stops_early words finish source source_after shelf shelf_after mode stops.TooLong accepts early gave
      (λ status sink sink_after plan. (asked status sink sink_after, cause.0)) refl (λ w. w) refl no_gen
      (λ other. cause.1) few
  unread_stops gave few stops.NoMemory cause early =
      no_memory words finish source source_after shelf shelf_after mode accepts early gave
      (λ gen. absurd (not_gen gen)) cause few
  unread_stops gave few _ cause early = absurd cause

  unread_finishes : EndsUnread mode source source_after finish shelf shelf_after
      → Finishes words finish source source_after shelf shelf_after
  unread_finishes ends =
      unread_stops (gave_added source source_after ends.part.text ends.part.gave) ends.part.reads ends.stop
      (subst (λ (t : List ℕ). UnreadCause (source_limit mode) t source source_after ends.stop)
      (text_is source source_after ends.part.text ends.part.gave) ends.part.cause)
      ends.early

  -- a source whose script was run
  read_finishes : OpensMesh mode → EndsRead mode source source_after finish shelf shelf_after
      → Finishes words finish source source_after shelf shelf_after
  read_finishes opens ends =
      by (subst (λ (t : List ℕ). FinishesText t mode finish shelf shelf_after) same ends.of_text)
    where
      same : ends.text ≡ text_given
      same = text_is source source_after ends.text ends.whole.gave

      gave : Gave source text_given source_after
      gave = gave_added source source_after ends.text ends.whole.gave

      whole : (status : ℕ) (sink sink_after : SinkView) → WasReadWhole (call_then status sink sink_after) mode
      whole status sink sink_after =
          was_read_whole (call_then status sink sink_after) mode
          (read_whole (call_then status sink sink_after) mode ends.text same ends.whole)

      by : FinishesText text_given mode finish shelf shelf_after
          → Finishes words finish source source_after shelf shelf_after
      by (inl out) =
          no_memory words finish source source_after shelf shelf_after mode accepts out gave
          (λ gen. absurd (not_gen gen)) ends.whole.told ends.whole.reads
      by (inr done) =
          of_text words finish source source_after shelf shelf_after mode (script text_given) opens accepts
          (ap script (script_read mode text_given opens not_gen)) gave done whole
          (λ gen. absurd (not_gen gen)) ends.whole.told ends.whole.reads (λ gen. absurd (not_gen gen))
          (λ gen. absurd (not_gen gen))
          (inr asked)

  -- a mode whose script the source gives
  pub source_finishes : OpensMesh mode → FinishesSource mode source source_after finish shelf shelf_after
      → Finishes words finish source source_after shelf shelf_after
  source_finishes opens (inl read) = read_finishes opens read
  source_finishes opens (inr unread) = unread_finishes unread

-- the same of words that ask for a work
pub work_finishes : (words : List (List ℕ)) (work asked : Work) (finish : Finish) (source source_after : SourceView)
    (shelf shelf_after : ShelfView) → OpensMesh (mode_of work) → (IsGen (mode_of work) → ⊥) → asked ≡ work
    → Accepts words (mode_of asked) → FinishesSource (mode_of work) source source_after finish shelf shelf_after
    → Finishes words finish source source_after shelf shelf_after
work_finishes words work asked finish source source_after shelf shelf_after opens not_gen is accepts ends =
    source_finishes words (mode_of work) finish source source_after shelf shelf_after
    (subst (λ (w : Work). Accepts words (mode_of w)) is accepts) not_gen opens ends

-- A source whose trace was verified

fault_same : {f g : TraceFault} → found_read (Err f) ≡ found_read (Err g) → f ≡ g
fault_same e = cc

-- a fault of the script that is found in a trace is its first one
behind_no_script : (read : Reading ReadTrace) (line : ℕ) (c : Cause)
    → found_read (told_line read) ≡ Err (InScript line c) → ⊥
behind_no_script (Ok r) line c e =
    let both : Ok (found_of r) ≡ Err (InScript line c) = e in cc
behind_no_script (Err n) line c e = search rules

script_first : (text : List ℕ) (line : ℕ) (c : Cause) → verified text ≡ Err (InScript line c)
    → IsFault (script_part text) line c
unfolding verified read_trace
script_first text line c e = by (script (script_part text)) e
  where
    by : (r : Result Plan Fault) → found_read (read_after text r) ≡ Err (InScript line c)
        → r ≡ Err (record { line = line; cause = c })
    by (Ok plan) e = absurd (behind_no_script _ line c e)
    by (Err fault) e = search rules

found_finishes : (words : List (List ℕ)) (finish : Finish) (source source_after : SourceView)
    (shelf shelf_after : ShelfView) → Accepts words VerifyMode
    → EndsFound source source_after finish shelf shelf_after
    → Finishes words finish source source_after shelf shelf_after
found_finishes words finish source source_after shelf shelf_after accepts ends = by ends.stop moved ends.early
  where
    text : List ℕ
    text = added_to source.given source_after.given

    same : ends.text ≡ text
    same = text_is source source_after ends.text ends.whole.gave

    gave : Gave source text source_after
    gave = gave_added source source_after ends.text ends.whole.gave

    moved : IsFoundIn (verified text) ends.stop
    moved = subst (λ (t : List ℕ). IsFoundIn (verified t) ends.stop) same ends.found

    whole : (status : ℕ) (sink sink_after : SinkView)
        → IsReadWhole (finished words finish source source_after shelf shelf_after status sink sink_after) VerifyMode
    whole status sink sink_after =
        read_whole (finished words finish source source_after shelf shelf_after status sink sink_after) VerifyMode
        ends.text same ends.whole

    no_gen : {A : Type 0} → ⊥ ⊎ ⊥ → A
    no_gen (inl bad) = absurd bad
    no_gen (inr bad) = absurd bad

    by : (stop : Stop) → IsFoundIn (verified text) stop → EndsEarly finish stop shelf shelf_after
        → Finishes words finish source source_after shelf shelf_after
    by (stops.Answered answer) found early =
        stops_early words finish source source_after shelf shelf_after VerifyMode (stops.Answered answer) accepts early
        gave
        (λ status sink sink_after plan. (accepts, whole status sink sink_after, found)) refl (λ w. w) refl no_gen
        (λ other. ends.whole.told) ends.whole.reads
    by (stops.NoTrace line) found early =
        stops_early words finish source source_after shelf shelf_after VerifyMode (stops.NoTrace line) accepts early
        gave
        (λ status sink sink_after plan. (accepts, whole status sink sink_after, found)) refl (λ w. w) refl no_gen
        (λ other. ends.whole.told) ends.whole.reads
    by (stops.NoScript line c) found early =
        stops_early words finish source source_after shelf shelf_after VerifyMode (stops.NoScript line c) accepts early
        gave
        (λ status sink sink_after plan. (accepts, whole status sink sink_after, script_first text line c found)) refl
        (λ w. w) refl no_gen (λ other. ends.whole.told) ends.whole.reads
    by stops.NoMemory found early =
        no_memory words finish source source_after shelf shelf_after VerifyMode accepts early gave
        (λ gen. absurd gen) ends.whole.told ends.whole.reads
    by _ found early = absurd found

-- the words ask for `verify`
pub verified_finishes : (words : List (List ℕ)) (asked : Work) (finish : Finish) (source source_after : SourceView)
    (shelf shelf_after : ShelfView) → asked ≡ works.Verify → Accepts words (mode_of asked)
    → FinishesVerified source source_after finish shelf shelf_after
    → Finishes words finish source source_after shelf shelf_after
verified_finishes words asked finish source source_after shelf shelf_after is accepts ends =
    search (
      rules,
      found_finishes words finish source source_after shelf shelf_after,
      unread_finishes words VerifyMode finish source source_after shelf shelf_after,
    )
