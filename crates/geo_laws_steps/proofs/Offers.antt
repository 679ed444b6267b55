-- What each step offers for taste lives.
use Rattle.std.specs.Prelude.{◌≡◌, ◌⊎◌, ℕ, Bool, true, false, Option, Some, None, IfSome}
use Rattle.std.proofs.Common.{inl, inr, refl, sym, subst}
use Rattle.geo_model.specs.declared.command.LineCommand.{LineCommand}
use Rattle.geo_model.specs.declared.step.Step.TheVariants as steps
use Rattle.geo_model.specs.World.{World}
use Rattle.geo_model.specs.History.{next_command}
use Rattle.geo_model.specs.Laws.{world_by}
use Rattle.geo_model.specs.Steady.{OffersOnlyLiving}
use Rattle.geo_model.specs.CommandEffects.{is_of_geoms}
use Rattle.geo_model.specs.Fitting.{Firm}
use Rattle.geo_laws_handles.specs.CommandLaws.{is_of_handles}
use Rattle.geo_laws_handles.proofs.Offered.{handles_offer_living}
use Rattle.geo_laws_offers.specs.OfferingLaws.{Adds, EndsTaste}
use Rattle.geo_laws_offers.proofs.Steps.{step-does}
use Rattle.geo_laws_offers.proofs.Washes.{ends-offer}
use Rattle.geo_laws_steps.specs.FreeingLaws.{StepsOfferOnlyLiving}
use Rattle.geo_laws_steps.proofs.OfHandles.{of-handles}

-- a Judge
judge-offers : (w after : World) → Adds w after ⊎ EndsTaste w after → OffersOnlyLiving w after
judge-offers w after (inl adds) = adds.offers
judge-offers w after (inr ended) = ends-offer w after ended

-- a Go, by whether its command is one of geoms
command-offers : (w : World) (seat actor : ℕ) → Firm w → (c : LineCommand) → next_command w actor ≡ Some c
    → (b : Bool) → is_of_geoms c.command ≡ b → OffersOnlyLiving w (world_by w seat (steps.Go actor))
command-offers w seat actor firm c next true of =
    (step-does w seat (steps.Go actor) (subst (λ o. IfSome o (λ x. is_of_geoms x.command ≡ true)) (sym next) of)
    firm).offers
command-offers w seat actor firm c next false other =
    handles_offer_living.done w seat actor
    (subst (λ o. IfSome o (λ x. is_of_handles x.command ≡ true)) (sym next) (of-handles c.command other))

-- by the command
go-offers : (w : World) (seat actor : ℕ) → Firm w → (o : Option LineCommand) → next_command w actor ≡ o
    → OffersOnlyLiving w (world_by w seat (steps.Go actor))
go-offers w seat actor firm None next =
    handles_offer_living.done w seat actor
    (subst (λ o. IfSome o (λ x. is_of_handles x.command ≡ true)) (sym next) tt)
go-offers w seat actor firm (Some c) next = command-offers w seat actor firm c next (is_of_geoms c.command) refl

-- each step
pub steps_offer_only_living : StepsOfferOnlyLiving
steps_offer_only_living w seat (steps.Go actor) firm = go-offers w seat actor firm (next_command w actor) refl
steps_offer_only_living w seat steps.Judge firm =
    judge-offers w (world_by w seat steps.Judge) (step-does w seat steps.Judge firm)
steps_offer_only_living w seat steps.Reap firm = handles_offer_living.reaped w seat
steps_offer_only_living w seat steps.Wash firm = step-does w seat steps.Wash
steps_offer_only_living w seat s firm = (step-does w seat s).offers
