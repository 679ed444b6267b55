-- What each step destroys was closed, detached and idle.
use Rattle.std.specs.Prelude.{◌≡◌, ◌⊎◌, ℕ, Bool, true, false, Option, Some, None, IfSome}
use Rattle.std.proofs.Common.{inl, inr, refl, sym, ◌∙◌, ap, subst}
use Rattle.geo_model.specs.declared.command.LineCommand.{LineCommand}
use Rattle.geo_model.specs.declared.step.Entry.{Entry}
use Rattle.geo_model.specs.declared.step.Step.{Step}
use Rattle.geo_model.specs.declared.step.Step.TheVariants as steps
use Rattle.geo_model.specs.World.{World}
use Rattle.geo_model.specs.History.{next_command, FreesOnlyIdle}
use Rattle.geo_model.specs.Laws.{world_by}
use Rattle.geo_model.specs.CommandEffects.{is_of_geoms}
use Rattle.geo_model.specs.Fitting.{Firm}
use Rattle.geo_laws_life.proofs.Washed.{wash_step_keeps}
use Rattle.geo_laws_handles.specs.CommandLaws.{is_of_handles}
use Rattle.geo_laws_handles.proofs.Idle.{handles_free_idle}
use Rattle.geo_laws_offers.specs.OfferingLaws.{StaysThere, Adds, EndsTaste}
use Rattle.geo_laws_offers.proofs.Steps.{step-does}
use Rattle.geo_laws_offers.proofs.Frees.{stays-frees}
use Rattle.geo_laws_steps.specs.FreeingLaws.{StepsFreeOnlyIdle}
use Rattle.geo_laws_steps.proofs.Ends.{ends-frees}
use Rattle.geo_laws_steps.proofs.OfHandles.{of-handles}

module _ (w : World) (firm : Firm w) (e : Entry) where
  -- a step that only adds
  adds-free : (s : Step) → e.step ≡ s → Adds w (world_by w e.seat s) → FreesOnlyIdle w e
  adds-free s is adds =
      stays-frees w firm e
      (subst (λ z. StaysThere w.topology (world_by w e.seat z).topology) (sym is) adds.stays)

  -- a Judge
  judge-frees : e.step ≡ steps.Judge
      → Adds w (world_by w e.seat steps.Judge) ⊎ EndsTaste w (world_by w e.seat steps.Judge) → FreesOnlyIdle w e
  judge-frees is (inl adds) = adds-free steps.Judge is adds
  judge-frees is (inr ended) =
      ends-frees w firm ended.taste ended.is ended.idle e (ap (λ z. world_by w e.seat z) is ∙ ended.ends)

  module _ (actor : ℕ) (is : e.step ≡ steps.Go actor) where
    -- a Go, by whether its command is one of geoms
    command-frees : (c : LineCommand) → next_command w actor ≡ Some c → (b : Bool) → is_of_geoms c.command ≡ b
        → FreesOnlyIdle w e
    command-frees c next true of =
        adds-free (steps.Go actor) is (step-does w e.seat (steps.Go actor)
        (subst (λ o. IfSome o (λ x. is_of_geoms x.command ≡ true)) (sym next) of) firm)
    command-frees c next false other =
        handles_free_idle.done w e actor is
        (subst (λ o. IfSome o (λ x. is_of_handles x.command ≡ true)) (sym next) (of-handles c.command other)) firm

    -- by the command
    go-frees : (o : Option LineCommand) → next_command w actor ≡ o → FreesOnlyIdle w e
    go-frees None next =
        handles_free_idle.done w e actor is
        (subst (λ o. IfSome o (λ x. is_of_handles x.command ≡ true)) (sym next) tt) firm
    go-frees (Some c) next = command-frees c next (is_of_geoms c.command) refl

  -- by the step
  step-frees : (s : Step) → e.step ≡ s → FreesOnlyIdle w e
  step-frees (steps.Go actor) is = go-frees actor is (next_command w actor) refl
  step-frees steps.Judge is = judge-frees is (step-does w e.seat steps.Judge firm)
  step-frees steps.Reap is = handles_free_idle.reaped w e is firm
  step-frees steps.Wash is = wash_step_keeps.idle w e is firm
  step-frees s is = adds-free s is (step-does w e.seat s)

-- each step
pub steps_free_only_idle : StepsFreeOnlyIdle
steps_free_only_idle w e firm = step-frees w firm e e.step refl
