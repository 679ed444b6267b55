-- Which commands of a plan each actor has left, by the place of its next one among all.
use Rattle.std.specs.Prelude.{◌≡◌, ℕ, ◌==◌, ◌≤◌, List, [], ◌∷◌, length, map, filter, drop, Option, Some, None, Result, Ok, Err, IfSome, slice_get}
use Rattle.std.specs.List.{enumerate_from}
use Rattle.geo_model.specs.declared.command.LineCommand.{LineCommand}
use Rattle.geo_model.specs.declared.step.Found.{Found}
use Rattle.geo_model.specs.declared.step.Found.TheVariants.{NoSuchActor, NoCommand}
use Rattle.geo_model.specs.World.{Plan}

-- the actor's commands from a place on
abbrev pub commands_from : List LineCommand → ℕ → ℕ → List LineCommand
commands_from commands actor place = filter (λ c. c.actor == actor) (drop place commands)

-- the same of an actor with its place
abbrev pub left_at : List LineCommand → ℕ × ℕ → List LineCommand
left_at commands item = commands_from commands item.0 item.1

-- the commands that each actor has left, from its place on
abbrev pub left_of : List LineCommand → List ℕ → List (List LineCommand)
left_of commands places = map (left_at commands) (enumerate_from 0 places)

-- at the place stands a command of the actor, or there the commands end
pub record IsNext (commands : List LineCommand) (actor place : ℕ) : Type 0 where
  pub inside : place ≤ length commands
  pub own : IfSome (slice_get commands place) (λ c. c.actor ≡ actor)

-- there is a place for each actor, and it is that of its next command
pub record AreNext (plan : Plan) (places : List ℕ) : Type 0 where
  pub each : length places ≡ length plan.actors
  pub next : (actor : ℕ) → IfSome (slice_get places actor) (IsNext plan.commands actor)

-- the first of the commands that an actor has left; else why there is none
abbrev pub next_command_of : Option (List LineCommand) → Result LineCommand Found
next_command_of None = Err NoSuchActor
next_command_of (Some []) = Err NoCommand
next_command_of (Some (c ∷ rest)) = Ok c

-- the commands that are left after it
abbrev pub rest_of : Option (List LineCommand) → List LineCommand
rest_of (Some (c ∷ rest)) = rest
rest_of _ = []
