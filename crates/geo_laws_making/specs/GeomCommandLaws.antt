-- Each command of geoms keeps a mesh sound, steady and fitting (geom(4)).
use Rattle.std.specs.Prelude.{◌≡◌, ℕ, true}
use Rattle.geo_model.specs.declared.command.Command.{Command}
use Rattle.geo_model.specs.World.{World}
use Rattle.geo_model.specs.Commands.{do_command}
use Rattle.geo_model.specs.CommandEffects.{is_of_geoms}
use Rattle.geo_model.specs.Plans.{IsCommand}
use Rattle.geo_model.specs.Fitting.{Firm}

-- each command of geoms leaves a firm mesh firm, whatever it answers
pub record GeomCommandsStayFirm : Type 0 where
  pub done : (w : World) (line actor : ℕ) (c : Command) → is_of_geoms c ≡ true → IsCommand c → Firm w
      → Firm (do_command w line actor c).0
