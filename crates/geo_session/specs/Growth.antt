-- A plan that gets one more command at its end, and what then is left to its actor.
use Rattle.std.specs.Prelude.{◌≡◌, ℕ, ◌==◌, List, [], ◌∷◌, ◌++◌, map, filter}
use Rattle.std.specs.List.{enumerate_from}
use Rattle.geo_model.specs.declared.command.LineCommand.{LineCommand}
use Rattle.geo_model.specs.declared.step.Entry.{Entry}
use Rattle.geo_model.specs.World.{World, Plan}
use Rattle.geo_model.specs.Opening.{opening}
use Rattle.geo_model.specs.Log.{Legal, replay}

-- the plan with the command
abbrev pub plan_with : Plan → LineCommand → Plan
plan_with plan c = record plan { commands = plan.commands ++ c ∷ [] }

-- the commands that an actor has left, and the command if it is the actor's
abbrev pub more_for : LineCommand → ℕ × List LineCommand → List LineCommand
more_for c item = item.1 ++ filter (λ x. x.actor == item.0) (c ∷ [])

-- the same of each actor
abbrev pub more_left : LineCommand → List (List LineCommand) → List (List LineCommand)
more_left c lists = map (more_for c) (enumerate_from 0 lists)

-- the world in which the command's actor has it left at the end
abbrev pub with_command : LineCommand → World → World
with_command c w = record w { actors = more_left c w.actors }

-- with the command the opening is the same, and each legal log stays so and leads to the same world, but that the
-- command is left at the end
pub record PlansMayGrow : Type 0 where
  pub opened : (plan : Plan) (facts : List (ℕ × ℕ)) (c : LineCommand)
      → opening (plan_with plan c) facts ≡ with_command c (opening plan facts)
  pub legal : (w : World) (log : List Entry) (c : LineCommand) → Legal w log → Legal (with_command c w) log
  pub world : (w : World) (log : List Entry) (c : LineCommand)
      → Legal w log → replay (with_command c w) log ≡ with_command c (replay w log)
