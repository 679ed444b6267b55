-- Each command keeps a firm mesh firm: it is one of a handle or one of geoms.
use Rattle.std.specs.Prelude.{◌≡◌, ℕ, Bool, true, false, Option, Some, None, IfSome}
use Rattle.std.proofs.Common.{refl}
use Rattle.geo_model.specs.declared.command.Command.{Command}
use Rattle.geo_model.specs.declared.command.LineCommand.{LineCommand}
use Rattle.geo_model.specs.Plans.{IsCommand}
use Rattle.geo_model.specs.World.{World}
use Rattle.geo_model.specs.Commands.{do_command}
use Rattle.geo_model.specs.CommandEffects.{is_of_geoms}
use Rattle.geo_model.specs.Fitting.{Firm}
use Rattle.geo_model.specs.History.{next_command}
use Rattle.geo_laws_handles.specs.CommandLaws.{EachStaysFirm}
use Rattle.geo_laws_handles.proofs.Commanded.{handle_commands_stay_firm, goes_stay_firm}
use Rattle.geo_laws_making.proofs.Commanded.{geom_commands_stay}
use Rattle.geo_laws_steps.specs.CommandLaws.{CommandsStayFirm}
use Rattle.geo_laws_steps.proofs.OfHandles.{of-handles}

-- each command
done-firm : (w : World) (line actor : ℕ) (c : Command) → IsCommand c → Firm w → Firm (do_command w line actor c).0
done-firm w line actor c form firm = by (is_of_geoms c) refl
  where
    -- by whether it is one of geoms
    by : (b : Bool) → is_of_geoms c ≡ b → Firm (do_command w line actor c).0
    by true of = geom_commands_stay.done w line actor c of form firm
    by false of = handle_commands_stay_firm.done w line actor c (of-handles c of) form firm

-- each command passes a test that all pass
each_stays : EachStaysFirm (λ c. true)
each_stays = record { done = λ w line actor c passes is firm. done-firm w line actor c is firm }

-- whatever command is next
passes_all : (o : Option LineCommand) → IfSome o (λ c. true ≡ true)
passes_all None = tt
passes_all (Some c) = refl

-- each command and each Go keep a firm mesh firm
pub commands_stay_firm : CommandsStayFirm
commands_stay_firm = record {
  done = done-firm;
  gone = λ w seat actor firm.
      goes_stay_firm.any (λ c. true) each_stays w seat actor (passes_all (next_command w actor)) firm;
}
