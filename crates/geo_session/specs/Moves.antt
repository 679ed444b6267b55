-- What is found against a step where no actor has a command left, which step is never refused, and which is an Up.
use Rattle.std.specs.Prelude.{◌≡◌, ℕ, [], Bool, true, false, Option, Ok, IsOk}
use Rattle.geo_model.specs.declared.command.Command.{Command}
use Rattle.geo_model.specs.declared.command.LineCommand.{LineCommand}
use Rattle.geo_model.specs.declared.step.Found.{Found}
use Rattle.geo_model.specs.declared.step.Outcome.{Outcome}
use Rattle.geo_model.specs.declared.step.Step.{Step}
use Rattle.geo_model.specs.declared.step.Step.TheVariants as steps
use Rattle.geo_model.specs.World.{World}
use Rattle.geo_model.specs.Step.{step, go}
use Rattle.geo_state.specs.declared.state.State.{State}
use Rattle.geo_state.specs.Steps.{against, IsAgainst}
use Rattle.geo_state.specs.World.{world}
use Rattle.geo_moves.specs.declared.decisions.Decision.{Decision}
use Rattle.geo_moves.specs.declared.decisions.Decision.TheVariants as decisions
use Rattle.geo_moves.specs.Decisions.{IsDecided}
use Rattle.geo_session.specs.Growth.{with_command}
use Rattle.geo_session.specs.Session.{none_left}

-- that is what was found against the step, where so many actors have no command left; against a step that isn't a Go
-- whatever commands are left
abbrev pub IsFoundAgainst : ℕ → State → ℕ → Step → Option Found → Type 0
IsFoundAgainst actors s seat (steps.Go actor) found = against (go (world (none_left actors) [] s) actor) ≡ found
IsFoundAgainst actors s seat st found = IsAgainst (λ w. step w seat st) s found

-- that is what was found against a command that is given: there is no such actor, or what it waits for
abbrev pub IsFoundGiven : ℕ → State → LineCommand → Option Found → Type 0
IsFoundGiven actors s c found =
    against (step (with_command c (world (none_left actors) [] s)) 0 (steps.Go c.actor)) ≡ found

-- whatever is decided of a command, it is that it closes
abbrev pub SurelyCloses : State → ℕ → Command → Type 0
SurelyCloses s actor command = (d : Decision) → IsDecided s actor command d → d ≡ decisions.Closes

-- the step is a Deliver that is enabled: it is never refused
abbrev pub IsEnabledDeliver : World → ℕ → Step → Type 0
IsEnabledDeliver w seat (steps.Deliver bio got) = IsOk (step w seat (steps.Deliver bio got))
IsEnabledDeliver w seat st = ⊥

-- the step is an Up
abbrev pub is_up_step : Step → Bool
is_up_step (steps.Up bio) = true
is_up_step _ = false

-- the step leads from one world to the other, with this outcome
abbrev pub Leads : World → ℕ → Step → World → Outcome → Type 0
Leads w seat st after outcome = step w seat st ≡ Ok (after, outcome)
