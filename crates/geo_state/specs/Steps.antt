-- What a step or a command does to a state, in the words of the mesh's definitions.
use Rattle.std.specs.Prelude.{◌≡◌, List, Option, Some, None, Ok, Err}
use Rattle.geo_model.specs.declared.command.LineCommand.{LineCommand}
use Rattle.geo_model.specs.declared.step.Entry.{Entry}
use Rattle.geo_model.specs.declared.step.Found.{Found}
use Rattle.geo_model.specs.declared.step.Outcome.{Outcome}
use Rattle.geo_model.specs.World.{World}
use Rattle.geo_model.specs.Step.{Answer}
use Rattle.geo_state.specs.declared.state.State.{State}
use Rattle.geo_state.specs.Holds.{Holds}
use Rattle.geo_state.specs.World.{world, StandsFirm}

-- where the log has some entries, the state stands for a sound, steady and fitting world
abbrev pub IsFirm : State → Type 0
IsFirm s = (log : List Entry) × StandsFirm log s

-- the state keeps what it has to keep, and stands for a sound, steady and fitting world
pub record Stands (s : State) : Type 0 where
  pub kept : Holds s
  pub firm : IsFirm s

-- what was found against a step, by its answer
abbrev pub against : Answer → Option Found
against (Ok made) = None
against (Err f) = Some f

-- that is what was found, whatever commands are left and whatever the log has
abbrev pub IsAgainst : (World → Answer) → State → Option Found → Type 0
IsAgainst step s f = (actors : List (List LineCommand)) (log : List Entry) → against (step (world actors log s)) ≡ f

-- the step is enabled, and makes of the old state's world the new one's, with this outcome
abbrev pub Makes : (World → Answer) → List Entry → State → State → Outcome → Type 0
Makes step log old new o =
    (actors : List (List LineCommand)) → step (world actors log old) ≡ Ok (world actors log new, o)

-- the command does so
abbrev pub Does : (World → World × Outcome) → List Entry → State → State → Outcome → Type 0
Does command log old new o =
    (actors : List (List LineCommand)) → command (world actors log old) ≡ (world actors log new, o)

-- the state stands for the world for which it stood
abbrev pub SameWorld : State → State → Type 0
SameWorld old new = (actors : List (List LineCommand)) (log : List Entry) → world actors log new ≡ world actors log old
