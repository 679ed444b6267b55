-- A log within its limit stays within it.
use Rattle.std.specs.Prelude.{◌≡◌, ℕ, ◌+◌, ◌≤◌, Bool, true, false, List, [], ◌∷◌, ◌++◌, length, Ok, Err, IsOkAnd, if◌then◌else◌}
use Rattle.std.proofs.Common.{refl, sym, ◌∙◌, ap, subst, arith}
use Rattle.std.proofs.lemmas.Bool.{le-ltb, ltb-false}
use Rattle.std.proofs.lemmas.List.{length-append, append-nil, append_assoc}
use Rattle.geo_model.proofs.OpeningLemmas.{opening_owes}
use Rattle.geo_base.specs.declared.limits.TheConstants.{MAX_LOG_ENTRIES}
use Rattle.geo_model.specs.declared.step.Entry.{Entry}
use Rattle.geo_model.specs.declared.step.Outcome.{Outcome}
use Rattle.geo_model.specs.declared.step.Step.{Step}
use Rattle.geo_model.specs.declared.step.Step.TheVariants as steps
use Rattle.geo_model.specs.World.{World}
use Rattle.geo_model.specs.Step.{Answer, step}
use Rattle.geo_model.specs.Log.{replay, world_after, after_entry, Legal, IsMade, IsSplitBy, owed, Fits, is_full, is_full_after}
use Rattle.geo_model.specs.History.{next_command}
use Rattle.geo_model.specs.Opening.{opening}
use Rattle.geo_model.specs.Fitting.{Firm}
use Rattle.geo_model.proofs.LogLemmas.{replay-append, Legal-append, Legal-back}
use Rattle.geo_laws_steps.proofs.Stepped.{steps_stay_firm}
use Rattle.geo_laws_steps.proofs.Logs.{firm_after}
use Rattle.geo_laws_owed.specs.OwedLaws.{is_close, is_answered_ok, pays, LogsStayLawful, HadRoom, LogsFitExactly}
use Rattle.geo_laws_owed.proofs.OwedSteps.{owed_changes}

-- an entry more
longer : (log : List Entry) (e : Entry) → length (log ++ e ∷ []) ≡ length log + 1
longer log e = length-append log (e ∷ [])

-- an answer that has its place leaves the log with one entry more within the limit
place_by : (n : ℕ) (w : World) (a : Answer) (outcome : Outcome) → IsOkAnd a (λ made. made.1 ≡ outcome)
    → is_full_after n a ≡ false → n + 1 + owed (world_after w a) ≤ MAX_LOG_ENTRIES
place_by n w (Ok made) outcome is room = ltb-false MAX_LOG_ENTRIES (n + 1 + owed made.0) room
place_by n w (Err found) outcome is room = absurd is

-- an answer that leaves it within the limit has its place
room_by : (n : ℕ) (w : World) (a : Answer) → n + 1 + owed (world_after w a) ≤ MAX_LOG_ENTRIES
    → is_full_after n a ≡ false
room_by n w (Ok made) fits = le-ltb MAX_LOG_ENTRIES (n + 1 + owed made.0) fits
room_by n w (Err found) fits = refl

-- the log with an entry that has its place fits
fits_on : (opened : World) (log : List Entry) (e : Entry) → IsMade (replay opened log) e
    → is_full log (replay opened log) e.seat e.step ≡ false → Fits opened (log ++ e ∷ [])
unfolding is_full
fits_on opened log e made room =
    let w : World = replay opened log in
    let fits = place_by (length log) w (step w e.seat e.step) e.outcome made room in
    let after : owed (replay opened (log ++ e ∷ [])) ≡ owed (after_entry w e) =
    ap (λ (v : World). owed v) (replay-append opened log (e ∷ [])) in
    omega (arith, fits, after, longer log e)

-- a lawful log stays lawful
pub logs_stay_lawful : LogsStayLawful
logs_stay_lawful opened log e lawful made room =
    (Legal-append opened log (e ∷ []) lawful.0 (made, tt), fits_on opened log e made room)

-- Each place

-- a step pays at most one place
pays_one : (w : World) (s : Step) (outcome : Outcome) → pays w s outcome ≤ 1
pays_one w (steps.Go actor) outcome = by (is_answered_ok is_close (next_command w actor) outcome) where
  -- by whether it closes a handle
  by : (b : Bool) → (if b then 1 else 0) ≤ 1
  by true = omega arith
  by false = omega arith
pays_one w s outcome = omega arith

-- so with its entry the log and what is owed are no shorter than before
no_shorter : (w : World) (seat : ℕ) (s : Step) → Firm w → (a : Answer) → step w seat s ≡ a
    → owed w ≤ 1 + owed (world_after w a)
no_shorter w seat s firm (Ok made) is =
    let changes = owed_changes w seat s made.0 made.1 firm is in
    omega (arith, changes, pays_one w s made.1)
no_shorter w seat s firm (Err found) is = omega arith

-- along further entries
pub never_shorter : (w : World) (log : List Entry) → Firm w → owed w ≤ length log + owed (replay w log)
never_shorter w [] firm = omega arith
never_shorter w (e ∷ log) firm =
    let one = no_shorter w e.seat e.step firm (step w e.seat e.step) refl in
    let rest = never_shorter (after_entry w e) log (steps_stay_firm w e.seat e.step firm) in
    omega (arith, one, rest)

module _ (opened : World) where
  -- a log of which each entry had its place fits, some of it after some
  fits_along : (before rest log : List Entry) → log ≡ before ++ rest → Legal opened log → HadRoom opened log
      → Fits opened before → Fits opened log
  fits_along before [] log is legal room fits =
      subst (Fits opened) (sym (is ∙ append-nil before)) fits
  fits_along before (e ∷ rest) log is legal room fits =
      let back : Legal (replay opened before) (e ∷ rest) =
      Legal-back opened before (e ∷ rest) (subst (Legal opened) is legal) in
      fits_along (before ++ e ∷ []) rest log (is ∙ sym (append_assoc before (e ∷ []) rest)) legal room
      (fits_on opened before e back.0 (room before e (rest, is)))

  -- in a log that fits each entry had its place, where its world was firm
  had_room : (log earlier : List Entry) (e : Entry) → Fits opened log → IsSplitBy log earlier e
      → Firm (replay opened earlier) → is_full earlier (replay opened earlier) e.seat e.step ≡ false
  unfolding is_full
  had_room log earlier e fits split firm =
      let w : World = replay opened earlier in
      let later : List Entry = split.0 in
      let rest = never_shorter (after_entry w e) later (steps_stay_firm w e.seat e.step firm) in
      let long : length log ≡ length earlier + length (e ∷ later) =
      ap length split.1 ∙ length-append earlier (e ∷ later) in
      let one : length (e ∷ later) ≡ 1 + length later = omega arith in
      let end : owed (replay opened log) ≡ owed (replay (after_entry w e) later) =
      ap (λ (l : List Entry). owed (replay opened l)) split.1
      ∙ ap (λ (v : World). owed v) (replay-append opened earlier (e ∷ later)) in
      room_by (length earlier) w (step w e.seat e.step) (omega (arith, fits, rest, long, one, end))

-- a legal log is within its limit exactly if each entry had its place
pub logs_fit_exactly : LogsFitExactly
logs_fit_exactly plan facts is fit log legal = (
  (λ fits earlier e split.
      had_room (opening plan facts) log earlier e fits split (firm_after plan facts is fit earlier)),
  (λ room.
      let none = opening_owes plan facts in
      fits_along (opening plan facts) [] log log refl legal room (omega (arith, none))),
)
