-- Where a log is full it is nearly as long as it can be, and where no step is due all is at rest.
use Rattle.std.specs.Prelude.{◌≡◌, ◌↔◌, Bool, true, false, Option, Some, None, IsErrAnd, IsErrOf, IsNone, IsSomeAnd, IsTrue, Result, Ok, Err}
use Rattle.std.proofs.Common.{refl, sym, ◌∙◌, subst}
use Rattle.std.proofs.lemmas.Bool.{both_ways}
use Rattle.geo_model.specs.declared.step.Step.{Step}
use Rattle.geo_model.specs.Step.{is_enabled}
use Rattle.geo_model.specs.Log.{is_full}
use Rattle.geo_model.specs.Order.{Rest, is_at_rest}
use Rattle.geo_model.specs.FixedOrder.{StepOrder}
use Rattle.geo_model.specs.Laws.{Lowers, NoneBusy, OrderEnds, OrderGoesOn}
use Rattle.geo_laws_disks.proofs.Legal.{firm_after}
use Rattle.geo_core.proofs.FullLogs.{full_logs_are_long}
use Rattle.geo_core.specs.Mesh.{IsHistory, MeshView, world_of}
use Rattle.geo_drain.specs.declared.refusal.DrainRefusal.{DrainRefusal}
use Rattle.geo_drain.specs.declared.refusal.DrainRefusal.TheVariants.{LogFull, NoMemory}
use Rattle.geo_drain.specs.Drain.{RanFull}

-- want of memory isn't a full log
pub not_full : {A : Type 0} (result : Result A DrainRefusal) → IsErrAnd result (λ x. x ≡ NoMemory)
    → IsErrOf result LogFull → ⊥
not_full (Ok a) is full = absurd is
not_full (Err x) is full = let no : ⊥ = cc (is, full) in no

-- a step that is due and has no place
pub ran_full : (order : StepOrder) (m : MeshView) (s : Step) → IsHistory m → order (world_of m) m.log ≡ Some s
    → IsTrue (is_full m.log (world_of m) 0 s) → RanFull order m
ran_full order m s history due full = record {
  due = subst (λ o. IsSomeAnd o (λ t. IsTrue (is_full m.log (world_of m) 0 t))) (sym due) full;
  nearly = full_logs_are_long m.log (world_of m) 0 s
      (firm_after m.plan m.facts history.plan.begins history.facts m.log) full;
}

-- where none is due all is at rest
pub none_due : (order : StepOrder) (m : MeshView) → OrderGoesOn order → IsHistory m → NoneBusy (world_of m)
    → order (world_of m) m.log ≡ None → Rest (world_of m)
none_due order m goes_on history none_busy none = by (is_at_rest (world_of m)) refl
  where
    Good : Step → Type 0
    Good s = IsTrue (is_enabled (world_of m) 0 s) × Lowers (world_of m) 0 s

    by : (c : Bool) → is_at_rest (world_of m) ≡ c → Rest (world_of m)
    by true is = is
    by false is =
        let some : IsSomeAnd (order (world_of m) m.log) Good =
        goes_on m.plan m.facts history.plan.begins history.facts m.log history.lawful.0 none_busy
        (λ rest. both_ways (is_at_rest (world_of m)) is rest) in
        let bad : IsSomeAnd None Good = subst (λ o. IsSomeAnd o Good) none some in
        absurd bad

-- an order gives none exactly at rest
pub none_at_rest : (order : StepOrder) (m : MeshView) → OrderGoesOn order → OrderEnds order → IsHistory m
    → NoneBusy (world_of m) → (o : Option Step) → o ≡ order (world_of m) m.log
    → IsNone o ↔ Rest (world_of m)
none_at_rest order m goes_on ends history none_busy o is = (to o is, λ rest. from o (is ∙ ends (world_of m) m.log rest))
  where
    to : (x : Option Step) → x ≡ order (world_of m) m.log → IsNone x → Rest (world_of m)
    to None same none = none_due order m goes_on history none_busy (sym same)
    to (Some s) same none = absurd (let bad : ⊥ = cc in bad)

    from : (x : Option Step) → x ≡ None → IsNone x
    from None same = refl
    from (Some s) same = absurd (let bad : ⊥ = cc in bad)
