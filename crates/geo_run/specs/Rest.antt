-- How a mesh goes to rest in an order.
use Rattle.std.specs.Prelude.{◌≡◌, ◌+◌, ◌-◌, ◌≤◌, List, length}
use Rattle.geo_base.specs.declared.limits.TheConstants.{MAX_LOG_ENTRIES}
use Rattle.geo_model.specs.declared.step.Entry.{Entry}
use Rattle.geo_model.specs.World.{World}
use Rattle.geo_model.specs.Log.{replay, owed}
use Rattle.geo_model.specs.FixedOrder.{FollowsOrder, StepOrder}
use Rattle.geo_headline.specs.Endings.{NextIsFull}
use Rattle.geo_elev.specs.Meshes.{MeshView, opened}
use Rattle.geo_elev.specs.Drain.{with_entries}
use Rattle.geo_run.specs.Drives.{DriveView, ServeAll}

-- the mesh made more steps, in the order with seat 0, and the drives did what its log says
pub record Adds (order : StepOrder) (old new : MeshView) (before after : List DriveView) : Type 0 where
  pub added : List Entry
  pub mesh : new ≡ with_entries old added
  pub follows : FollowsOrder order (opened old) old.log added
  pub drives : ServeAll added 0 before after

-- the step that is due has no place in the log, which with the places owed is as long as it may be, or one shorter
pub record RanFull (order : StepOrder) (opened : World) (log : List Entry) : Type 0 where
  pub due : NextIsFull order opened log
  pub nearly : MAX_LOG_ENTRIES - 1 ≤ length log + owed (replay opened log)
