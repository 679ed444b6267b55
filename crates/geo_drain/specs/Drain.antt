-- What a run to rest adds to the log and leaves of the drives.
use Rattle.std.specs.Prelude.{◌≡◌, ◌+◌, ◌-◌, ◌≤◌, List, ◌++◌, length, map, IsTrue}
use Rattle.geo_base.specs.declared.limits.TheConstants.{MAX_LOG_ENTRIES}
use Rattle.geo_model.specs.declared.step.Entry.{Entry}
use Rattle.geo_model.specs.declared.step.Step.{Step}
use Rattle.geo_model.specs.Laws.{Lowers}
use Rattle.geo_model.specs.Log.{owed}
use Rattle.geo_model.specs.Step.{is_enabled}
use Rattle.geo_model.specs.World.{World}
use Rattle.geo_model.specs.FixedOrder.{StepOrder, FollowsOrder}
use Rattle.geo_headline.specs.Endings.{NextIsFull}
use Rattle.geo_serve.specs.Drives.{DriveView}
use Rattle.geo_serve.specs.Served.{AreServed}
use Rattle.geo_laws_disks.specs.DriveLaws.{AreTaken}
use Rattle.geo_core.specs.Mesh.{MeshView, opened, world_of}

-- the mesh with more entries
abbrev pub with_entries : MeshView → List Entry → MeshView
with_entries m added = record m { log = m.log ++ added }

-- a step of seat 0 that is enabled and lowers the measure, a Take together with its Deliver
pub record Falls (w : World) (s : Step) : Type 0 where
  pub enabled : IsTrue (is_enabled w 0 s)
  pub lowers : Lowers w 0 s

-- there is one drive for each disk of the plan, in header order, with the sizes with which the mesh began
abbrev pub DrivesFit : MeshView → List DriveView → Type 0
DrivesFit m drives = map (λ (d : DriveView). (d.sector, d.count)) drives ≡ m.facts

-- a run of one thread: what it added to the log follows the order, with the Take of each of its Delivers, and each
-- drive served what that says
pub record Runs (order : StepOrder) (old new : MeshView) (before after : List DriveView) : Type 0 where
  pub added : List Entry
  pub grown : new ≡ with_entries old added
  pub follows : FollowsOrder order (opened old) old.log added
  pub taken : AreTaken added added
  pub served : AreServed added before after

-- there is no place in the log for the step that is due, so the log is full but for what is owed
pub record RanFull (order : StepOrder) (m : MeshView) : Type 0 where
  pub due : NextIsFull order (opened m) m.log
  pub nearly : MAX_LOG_ENTRIES - 1 ≤ length m.log + owed (world_of m)
