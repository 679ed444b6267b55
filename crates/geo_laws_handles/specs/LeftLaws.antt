-- The commands that are left keep a mesh sound, steady and fitting.
use Rattle.std.specs.Prelude.{◌≡◌, ℕ, List, ◌∷◌, Some, slice_get}
use Rattle.geo_model.specs.declared.command.LineCommand.{LineCommand}
use Rattle.geo_model.specs.Plans.{IsCommand}
use Rattle.geo_model.specs.World.{World}
use Rattle.geo_model.specs.Step.{with_commands}
use Rattle.geo_model.specs.Fitting.{Firm}

-- an actor takes its next command, which is one: the world in which it has the rest left
pub record CommandsLeftStayFirm : Type 0 where
  pub taken : (w : World) (actor : ℕ) (c : LineCommand) (rest : List LineCommand)
      → slice_get w.actors actor ≡ Some (c ∷ rest) → Firm w → Firm (with_commands w actor rest)
  pub command : (w : World) (actor : ℕ) (c : LineCommand) (rest : List LineCommand)
      → slice_get w.actors actor ≡ Some (c ∷ rest) → Firm w → IsCommand c.command
