-- What an order knows of a mesh, while the mesh goes on.
use Rattle.std.specs.Prelude.{◌≡◌, List, [], OnErr, Option, Some, Result, Ok, Err}
use Rattle.std.proofs.Common.{append-nil, sym, ◌∙◌, ap, subst}
use Rattle.geo_model.specs.declared.step.Entry.{Entry}
use Rattle.geo_model.specs.declared.step.Step.{Step}
use Rattle.geo_model.specs.FixedOrder.{StepOrder}
use Rattle.geo_model.specs.Laws.{NoneBusy}
use Rattle.geo_model.specs.World.{World}
use Rattle.geo_serve.specs.Drives.{DriveView}
use Rattle.geo_core.specs.Mesh.{IsHistory, MeshView, opened, world_of}
use Rattle.geo_drain.specs.Drain.{DrivesFit, with_entries}
use Rattle.geo_drain.specs.Noted.{KnowsAll, KnowsPart}
use Rattle.geo_drain.specs.Turns.{MakesTurn}
use Rattle.geo_drain.specs.Running.{IsRunning}
use Rattle.geo_drain.proofs.Going.{begins, goes_on}

-- what was due in an order that is the same
pub due_same : (first now : StepOrder) (w : World) (log : List Entry) (o : Option Step) (s : Step) → now ≡ first
    → o ≡ now w log → o ≡ Some s → first w log ≡ Some s
due_same first now w log o s same due is = ap (λ (order : StepOrder). order w log) (sym same) ∙ sym due ∙ is

-- what holds after all is so where a refusal came
pub on_err : {A E P : Type 0} (result : Result A E) → P → OnErr result P
on_err (Ok a) p = tt
on_err (Err e) p = p

module _ (knows : World → List Entry → Type 0) where
  -- who knew all before more was done then knows a part
  pub part_of_more : (old new : MeshView) (added : List Entry) → new ≡ with_entries old added → KnowsAll knows old
      → KnowsPart knows new
  part_of_more old new added grown all = (
    old.log,
    (added, ap (λ (m : MeshView). m.log) grown),
    subst (λ (m : MeshView). knows (opened m) old.log) (sym grown) all,
  )

  -- or where nothing was done
  pub part_of_all : (old new : MeshView) → new ≡ old → KnowsAll knows old → KnowsPart knows new
  part_of_all old new same all = (
    old.log,
    ([], ap (λ (m : MeshView). m.log) same ∙ sym (append-nil old.log)),
    subst (λ (m : MeshView). knows (opened m) old.log) (sym same) all,
  )

  -- so it is after a turn
  pub part_after : (order : StepOrder) (old new : MeshView) (before after : List DriveView) (s : Step)
      → NoneBusy (world_of old) → DrivesFit old before → order (world_of old) old.log ≡ Some s
      → IsHistory new → MakesTurn old new before after s → KnowsAll knows old → KnowsPart knows new
  part_after order old new before after s none_busy fit due then turn all =
      let run : IsRunning order old new before after =
      goes_on order old old new before before after s (begins order old before none_busy fit) due then turn in
      part_of_more old new run.runs.added run.runs.grown all
