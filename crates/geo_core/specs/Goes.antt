-- A step that can be made: what is decided of it, and its place in the log.
use Rattle.std.specs.Prelude.{◌≡◌, ℕ, ◌+◌, ◌≤◌, false, List, Option, Some, None, Ok, ⊤, slice_get}
use Rattle.geo_model.specs.declared.command.LineCommand.{LineCommand}
use Rattle.geo_model.specs.declared.step.Outcome.{Outcome}
use Rattle.geo_model.specs.declared.step.Step.{Step}
use Rattle.geo_model.specs.declared.step.Step.TheVariants as steps
use Rattle.geo_model.specs.World.{World}
use Rattle.geo_model.specs.Step.{step}
use Rattle.geo_model.specs.Log.{owed, is_full}
use Rattle.geo_state.specs.declared.state.State.{State}
use Rattle.geo_moves.specs.declared.decisions.Decision.{Decision}
use Rattle.geo_core.specs.declared.running.Running.{Running}
use Rattle.geo_moves.specs.Decisions.{IsDecided}
use Rattle.geo_core.specs.Left.{left_of, next_command_of}
use Rattle.geo_core.specs.Mesh.{world_of}
use Rattle.geo_core.specs.Moves.{IsFound}
use Rattle.geo_core.specs.Running.{seen}

-- what is decided of the actor's next command
abbrev pub IsDecidedNext : List LineCommand → List ℕ → State → ℕ → Decision → Type 0
IsDecidedNext commands left s actor d =
    (c : LineCommand) → next_command_of (slice_get (left_of commands left) actor) ≡ Ok c → IsDecided s actor c.command d

-- a Go has the decision of its command, if there is one
abbrev pub IsReady : List LineCommand → List ℕ → State → Step → Option Decision → Type 0
IsReady commands left s (steps.Go actor) (Some d) = IsDecidedNext commands left s actor d
IsReady commands left s (steps.Go actor) None =
    (c : LineCommand) → next_command_of (slice_get (left_of commands left) actor) ≡ Ok c → ⊥
IsReady commands left s st d = ⊤

-- so many places are owed after the step in the world
abbrev pub IsOwedAfter : World → Step → ℕ → Type 0
IsOwedAfter w st n =
    (seat : ℕ) (after : World) (outcome : Outcome) → step w seat st ≡ Ok (after, outcome) → n ≡ owed after

-- the log has room for the entry of the step and for all that is owed after it
abbrev pub HasRoomFor : World → ℕ → Step → ℕ → Type 0
HasRoomFor w seat st spare =
    (after : World) (outcome : Outcome) → step w seat st ≡ Ok (after, outcome) → owed after + 1 ≤ spare

-- nothing is against the step, what is decided of it is known, and it has its place in the log, and room for it
pub record IsAdmitted (r : Running) (seat : ℕ) (st : Step) (d : Option Decision) : Type 0 where
  pub found : IsFound r.plan.commands r.left r.state seat st None
  pub ready : IsReady r.plan.commands r.left r.state st d
  pub place : is_full r.log.items (world_of (seen r)) seat st ≡ false
  pub room : HasRoomFor (world_of (seen r)) seat st r.log.spare

-- the step is enabled, and less is owed after it, so that it takes no memory
pub record PaysOff (w : World) (seat : ℕ) (st : Step) : Type 0 where
  pub after : World
  pub outcome : Outcome
  pub does : step w seat st ≡ Ok (after, outcome)
  pub less : owed after + 1 ≤ owed w
