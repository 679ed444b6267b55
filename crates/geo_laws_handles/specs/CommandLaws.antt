-- Commands of handles, and the step by which an actor does its next command, keep a mesh sound, steady and fitting.
use Rattle.std.specs.Prelude.{◌≡◌, ℕ, Bool, true, not, IfSome}
use Rattle.geo_model.specs.declared.command.Command.{Command}
use Rattle.geo_model.specs.declared.step.Step.TheVariants as steps
use Rattle.geo_model.specs.World.{World}
use Rattle.geo_model.specs.Commands.{do_command}
use Rattle.geo_model.specs.CommandEffects.{is_of_geoms}
use Rattle.geo_model.specs.Plans.{IsCommand}
use Rattle.geo_model.specs.History.{next_command}
use Rattle.geo_model.specs.Laws.{world_by}
use Rattle.geo_model.specs.Fitting.{Firm}

-- whether a command is one of a handle, or only answers; the others make geoms, or let them grow or end
abbrev pub is_of_handles : Command → Bool
is_of_handles c = not (is_of_geoms c)

-- each command that passes a test leaves a firm mesh firm, whatever it answers
pub record EachStaysFirm (test : Command → Bool) : Type 0 where
  pub done : (w : World) (line actor : ℕ) (c : Command) → test c ≡ true → IsCommand c → Firm w
      → Firm (do_command w line actor c).0

-- so does each command of a handle
abbrev pub HandleCommandsStayFirm : Type 0
HandleCommandsStayFirm = EachStaysFirm is_of_handles

-- a Go leaves a firm mesh firm, whether it is enabled or not, where the next command passes a test and each that
-- passes does so; and so where it is one of a handle
pub record GoesStayFirm : Type 0 where
  pub any : (test : Command → Bool) → EachStaysFirm test
      → (w : World) (seat actor : ℕ) → IfSome (next_command w actor) (λ c. test c.command ≡ true) → Firm w
      → Firm (world_by w seat (steps.Go actor))
  pub handles : (w : World) (seat actor : ℕ) → IfSome (next_command w actor) (λ c. is_of_handles c.command ≡ true)
      → Firm w → Firm (world_by w seat (steps.Go actor))
