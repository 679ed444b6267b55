-- What the threads of a run left.
use Rattle.std.specs.Prelude.{◌≡◌, ◌≢◌, ℕ, ◌+◌, ◌-◌, ◌≤◌, List, ◌++◌, length, map, All, ⊤}
use Rattle.geo_base.specs.declared.limits.TheConstants.{MAX_LOG_ENTRIES}
use Rattle.geo_model.specs.declared.step.Entry.{Entry}
use Rattle.geo_model.specs.World.{Plan, World}
use Rattle.geo_model.specs.FixedOrder.{IsOfItsJob, JobsEndedIdle}
use Rattle.geo_model.specs.Laws.{NoneBusy}
use Rattle.geo_model.specs.Log.{Legal, owed, replay}
use Rattle.geo_headline.specs.Endings.{JobWasFull}
use Rattle.geo_serve.specs.Drives.{DriveView}
use Rattle.geo_serve.specs.Served.{AreServed}
use Rattle.geo_core.specs.Mesh.{IsHistory, MeshView, opened, world_of}
use Rattle.geo_jobs.specs.declared.left.JobsEnd.{JobsEnd}
use Rattle.geo_jobs.specs.declared.left.JobsEnd.TheVariants as ends

-- the size of a drive: the bytes of a sector, and the sectors
abbrev pub size_of : DriveView → ℕ × ℕ
size_of d = (d.sector, d.count)

-- there is one drive for each disk of the plan, in header order, with the sizes with which the mesh began
abbrev pub DrivesFit : MeshView → List DriveView → Type 0
DrivesFit m drives = map size_of drives ≡ m.facts

-- a job found the log full, which is full but for what is owed
pub record FoundFullByJob (plan : Plan) (opened : World) (threads : List Entry) : Type 0 where
  pub job : JobWasFull plan opened threads
  pub nearly : MAX_LOG_ENTRIES - 1 ≤ length threads + owed (replay opened threads)

-- what the log of the threads tells, by how they ended: where they ended idle, that holds before any steps that are
-- made after them; want of memory tells nothing
abbrev pub TellsEnd : Plan → World → List Entry → JobsEnd → Type 0
TellsEnd plan opened threads ends.Idle =
    (rest : List Entry) → Legal opened (threads ++ rest) → JobsEndedIdle plan opened threads rest
TellsEnd plan opened threads ends.LogFull = FoundFullByJob plan opened threads
TellsEnd plan opened threads ends.NoMemory = ⊤

-- threads ran over a mesh that had made no step. It is a history, and each entry is of a job and of the job's kind; no
-- bio is at a disk; the drives did what the log says, and have their sizes; and the log tells how the jobs ended
pub record ThreadsRan (before after : MeshView) (drives left : List DriveView) (ended : JobsEnd) : Type 0 where
  pub plan : after.plan ≡ before.plan
  pub facts : after.facts ≡ before.facts
  pub history : IsHistory after
  pub own_kind : All (λ e. (e.seat ≢ 0) × IsOfItsJob after.plan e.seat e.step) after.log
  pub none_busy : NoneBusy (world_of after)
  pub served : AreServed after.log drives left
  pub fit : DrivesFit after left
  pub tells : TellsEnd after.plan (opened after) after.log ended
