-- Where an order goes on, the step that is due falls.
use Rattle.std.specs.Prelude.{◌≡◌, Option, Some, None, IfSome, IsSomeAnd, IsTrue}
use Rattle.std.proofs.Common.{sym, ◌∙◌, subst}
use Rattle.geo_model.specs.declared.step.Step.{Step}
use Rattle.geo_model.specs.Step.{is_enabled}
use Rattle.geo_model.specs.Order.{Rest}
use Rattle.geo_model.specs.FixedOrder.{StepOrder}
use Rattle.geo_model.specs.Laws.{Lowers, NoneBusy, OrderEnds, OrderGoesOn}
use Rattle.geo_core.specs.Mesh.{IsHistory, MeshView, world_of}
use Rattle.geo_drain.specs.Drain.{Falls}

-- the step that an order gives is enabled and lowers the measure
pub due_falls : (order : StepOrder) (m : MeshView) → OrderGoesOn order → OrderEnds order → IsHistory m
    → NoneBusy (world_of m) → (o : Option Step) → o ≡ order (world_of m) m.log → IfSome o (Falls (world_of m))
due_falls order m goes_on ends history none_busy None is = tt
due_falls order m goes_on ends history none_busy (Some s) is =
    let due : IsSomeAnd (order (world_of m) m.log) Good =
    goes_on m.plan m.facts history.plan.begins history.facts m.log history.lawful.0 none_busy not_rest in
    let falls : IsSomeAnd (Some s) Good = subst (λ o. IsSomeAnd o Good) (sym is) due in
    record { enabled = falls.0; lowers = falls.1 }
  where
    Good : Step → Type 0
    Good t = IsTrue (is_enabled (world_of m) 0 t) × Lowers (world_of m) 0 t

    not_rest : Rest (world_of m) → ⊥
    not_rest rest =
        let bad : Some s ≡ None = is ∙ ends (world_of m) m.log rest in
        let no : ⊥ = cc in no
