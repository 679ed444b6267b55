-- Steps over what a mesh holds: what is found against them, what they do, and what is owed after them.
use Rattle.std.specs.Prelude.{◌≡◌, ℕ, ◌++◌, ◌∷◌, [], List, Option, Ok}
use Rattle.geo_model.specs.declared.command.LineCommand.{LineCommand}
use Rattle.geo_model.specs.declared.step.Entry.{Entry}
use Rattle.geo_model.specs.declared.step.Found.{Found}
use Rattle.geo_model.specs.declared.step.Outcome.{Outcome}
use Rattle.geo_model.specs.declared.step.Step.{Step}
use Rattle.geo_model.specs.declared.step.Step.TheVariants as steps
use Rattle.geo_model.specs.Step.{step, go}
use Rattle.geo_state.specs.declared.state.State.{State}
use Rattle.geo_state.specs.Steps.{against, IsAgainst}
use Rattle.geo_state.specs.World.{world}
use Rattle.geo_core.specs.Left.{left_of}

-- that is what was found against the step, whatever the log has, and for a step that isn't a Go whatever commands are
-- left
abbrev pub IsFound : List LineCommand → List ℕ → State → ℕ → Step → Option Found → Type 0
IsFound commands left s seat (steps.Go actor) found =
    (log : List Entry) → against (go (world (left_of commands left) log s) actor) ≡ found
IsFound commands left s seat st found = IsAgainst (λ w. step w seat st) s found

-- a step was made, and these commands are left after it
abbrev pub Moves : List LineCommand → List Entry → List ℕ → List ℕ → State → State → ℕ → Step → Outcome → Type 0
Moves commands log left rest old new seat st outcome =
    (e : Entry) → e.step ≡ st
    → step (world (left_of commands left) log old) seat st
    ≡ Ok (world (left_of commands rest) (log ++ e ∷ []) new, outcome)
