-- What each step adds to and takes from the places of the log that are owed, and that a log within its limit stays
-- within it.
use Rattle.std.specs.Prelude.{◌≡◌, ◌↔◌, ℕ, ◌+◌, Bool, true, false, ◌&&◌, List, [], ◌∷◌, ◌++◌, Option, Ok, if◌then◌else◌}
use Rattle.std.specs.Option.{option_map_or}
use Rattle.geo_model.specs.declared.command.Command.{Command}
use Rattle.geo_model.specs.declared.command.Command.TheVariants as commands
use Rattle.geo_model.specs.declared.command.LineCommand.{LineCommand}
use Rattle.geo_model.specs.declared.step.Entry.{Entry}
use Rattle.geo_model.specs.declared.step.Outcome.{Outcome}
use Rattle.geo_model.specs.declared.step.Outcome.TheVariants as outcomes
use Rattle.geo_model.specs.declared.step.Reply.TheVariants as replies
use Rattle.geo_model.specs.declared.step.Step.{Step}
use Rattle.geo_model.specs.declared.step.Step.TheVariants as steps
use Rattle.geo_model.specs.World.{World}
use Rattle.geo_model.specs.Step.{step}
use Rattle.geo_model.specs.Log.{replay, IsMade, IsSplitBy, owed, Fits, IsLawful, is_full}
use Rattle.geo_model.specs.History.{next_command}
use Rattle.geo_model.specs.Fitting.{Firm}
use Rattle.geo_model.specs.Laws.{OfEachLegalLog}

-- whether the command is an open, and whether it is a close
abbrev pub is_open : Command → Bool
is_open (commands.Open name prov grant) = true
is_open _ = false

abbrev pub is_close : Command → Bool
is_close (commands.Close name) = true
is_close _ = false

-- whether a line is answered ok
abbrev pub is_ok_outcome : Outcome → Bool
is_ok_outcome (outcomes.Replied line replies.Ok) = true
is_ok_outcome _ = false

-- whether the command passes the test and is answered ok
abbrev pub is_answered_ok : (Command → Bool) → Option LineCommand → Outcome → Bool
is_answered_ok test c outcome = option_map_or (λ x. test x.command) c false && is_ok_outcome outcome

-- the places that a step begins to owe: a Take one for the Deliver of its bio, a Go one for the close of the handle
-- that it opens
abbrev pub begins_to_owe : World → Step → Outcome → ℕ
begins_to_owe w (steps.Take disk b) outcome = 1
begins_to_owe w (steps.Go actor) outcome = if is_answered_ok is_open (next_command w actor) outcome then 1 else 0
begins_to_owe w s outcome = 0

-- the places that it pays: a Deliver the one of its bio, a Go the one of the handle that it closes
abbrev pub pays : World → Step → Outcome → ℕ
pays w (steps.Deliver b got) outcome = 1
pays w (steps.Go actor) outcome = if is_answered_ok is_close (next_command w actor) outcome then 1 else 0
pays w s outcome = 0

-- each step owes just so many places more and less
abbrev pub OwedChanges : Type 0
OwedChanges =
    (w : World) (seat : ℕ) (s : Step) (after : World) (outcome : Outcome) → Firm w
    → step w seat s ≡ Ok (after, outcome)
    → owed after + pays w s outcome ≡ owed w + begins_to_owe w s outcome

-- a lawful log stays lawful with an entry that is made and has its place
abbrev pub LogsStayLawful : Type 0
LogsStayLawful =
    (opened : World) (log : List Entry) (e : Entry) → IsLawful opened log → IsMade (replay opened log) e
    → is_full log (replay opened log) e.seat e.step ≡ false → IsLawful opened (log ++ e ∷ [])

-- each entry had its place when it was made
abbrev pub HadRoom : World → List Entry → Type 0
HadRoom opened log =
    (earlier : List Entry) (e : Entry) → IsSplitBy log earlier e
    → is_full earlier (replay opened earlier) e.seat e.step ≡ false

-- a legal log from an opening is within its limit exactly if each entry had its place when it was made
abbrev pub LogsFitExactly : Type 0
LogsFitExactly = OfEachLegalLog (λ opened log. Fits opened log ↔ HadRoom opened log)
