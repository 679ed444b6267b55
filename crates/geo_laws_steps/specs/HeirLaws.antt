-- Laws of what comes after a step: each part of the graph is new or stood before (geom(4)).
use Rattle.std.specs.Prelude.{◌≡◌, ℕ, Bool, true, false}
use Rattle.geo_model.specs.declared.command.Command.{Command}
use Rattle.geo_model.specs.declared.command.Command.TheVariants as commands
use Rattle.geo_model.specs.declared.step.Step.TheVariants as steps
use Rattle.geo_model.specs.World.{World}
use Rattle.geo_model.specs.Commands.{do_command}
use Rattle.geo_model.specs.Laws.{world_by}
use Rattle.geo_model.specs.Fitting.{Firm}
use Rattle.geo_laws_steps.specs.Heirs.{Follows}

-- whether the command lets a concat grow
abbrev pub is_append : Command → Bool
is_append (commands.Append name prov) = true
is_append _ = false

-- each command but an append, an event, a step of a taste, a reap and a wash leave each part what it was, or make
-- it new, and the bios stay
pub record StepsInherit : Type 0 where
  pub done : (w : World) (line actor : ℕ) (c : Command) → is_append c ≡ false
      → Follows w (do_command w line actor c).0
  pub event : (w : World) (seat : ℕ) → Follows w (world_by w seat steps.Event)
  pub judge : (w : World) (seat : ℕ) → Firm w → Follows w (world_by w seat steps.Judge)
  pub reap : (w : World) (seat : ℕ) → Follows w (world_by w seat steps.Reap)
  pub wash : (w : World) (seat : ℕ) → Follows w (world_by w seat steps.Wash)
