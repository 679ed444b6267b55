-- What holds between the turns of a run.
use Rattle.std.specs.Prelude.{◌≡◌, List}
use Rattle.geo_model.specs.declared.step.Entry.{Entry}
use Rattle.geo_model.specs.FixedOrder.{StepOrder}
use Rattle.geo_model.specs.Laws.{NoneBusy}
use Rattle.geo_model.specs.World.{World}
use Rattle.geo_serve.specs.Drives.{DriveView}
use Rattle.geo_core.specs.Mesh.{MeshView, world_of}
use Rattle.geo_drain.specs.Drain.{DrivesFit, Runs}
use Rattle.geo_drain.specs.Noted.{KnowsPart}

-- a run so far: no bio is Busy
pub record IsRunning (order : StepOrder) (old new : MeshView) (before after : List DriveView) : Type 0 where
  pub runs : Runs order old new before after
  pub none_busy : NoneBusy (world_of new)
  pub fit : DrivesFit new after

-- the order, which began as `first`, is the same one, and knows a part of what the mesh did
pub record IsKnown {O : Type 0} (due : O → StepOrder) (knows : O → World → List Entry → Type 0) (first now : O)
    (m : MeshView) : Type 0 where
  pub same : due now ≡ due first
  pub part : KnowsPart (knows now) m
