-- Histories that go on: which steps name a bio, and what stays of what the log told of it (g_bio(9)).
use Rattle.std.specs.Prelude.{◌≡◌, ℕ, ◌||◌, Bool, false, List, ◌++◌, Some, IsSome, All}
use Rattle.geo_model.specs.declared.step.BioResult.{BioResult}
use Rattle.geo_model.specs.declared.step.Step.{Step}
use Rattle.geo_model.specs.Log.{Moment}
use Rattle.geo_model.specs.Results.{device_answer_of, entries_of, is_deliver_of, is_start_of, is_take_of, is_up_of, leaves, request_of, result_of}

-- whether a step is the Start, the Take, the Deliver or the Up of a bio
abbrev pub names_bio : ℕ → Step → Bool
names_bio b s = is_start_of b s || (is_take_of b s || (is_deliver_of b s || is_up_of b s))

-- no entry so far passes
abbrev pub Never : (Step → Bool) → List Moment → Type 0
Never test history = All (λ m. test m.entry.step ≡ false) history

-- each bio that a device answered was taken before
abbrev pub AnsweredAreTaken : List Moment → Type 0
AnsweredAreTaken history =
    (b : ℕ) → IsSome (device_answer_of (entries_of history) b) → IsSome (request_of (entries_of history) b)

-- a result that was found stays found
abbrev pub ResultsStay : Type 0
ResultsStay =
    (history later : List Moment) (b : ℕ) (r : BioResult)
    → result_of history b ≡ Some r → result_of (history ++ later) b ≡ Some r

-- the leaves of a bio with a result stay
abbrev pub LeavesStay : Type 0
LeavesStay =
    (history later : List Moment) (b : ℕ) (r : BioResult)
    → AnsweredAreTaken history → result_of history b ≡ Some r → leaves (history ++ later) b ≡ leaves history b

-- what a history keeps of what was found
pub record HistoriesKeep : Type 0 where
  pub results : ResultsStay
  pub leaves : LeavesStay
