-- Each command of a plan keeps a mesh sound, steady and fitting, and so does each Go (geom(4)).
use Rattle.std.specs.Prelude.{ℕ}
use Rattle.geo_model.specs.declared.command.Command.{Command}
use Rattle.geo_model.specs.declared.step.Step.TheVariants as steps
use Rattle.geo_model.specs.Plans.{IsCommand}
use Rattle.geo_model.specs.World.{World}
use Rattle.geo_model.specs.Commands.{do_command}
use Rattle.geo_model.specs.Fitting.{Firm}
use Rattle.geo_model.specs.Laws.{world_by}

-- each command that can stand in a plan leaves a firm mesh firm, whatever it answers, and so does a Go of each actor
pub record CommandsStayFirm : Type 0 where
  pub done : (w : World) (line actor : ℕ) (c : Command) → IsCommand c → Firm w → Firm (do_command w line actor c).0
  pub gone : (w : World) (seat actor : ℕ) → Firm w → Firm (world_by w seat (steps.Go actor))
