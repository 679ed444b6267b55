-- What a disk worker did over several turns.
use Rattle.std.specs.Prelude.{ℕ, List, All}
use Rattle.geo_disk.specs.declared.drive.Drive.{Drive}
use Rattle.geo_model.specs.declared.step.Entry.{Entry}
use Rattle.geo_model.specs.World.{World}
use Rattle.geo_serve.specs.Drives.{DriveView}
use Rattle.geo_lock.specs.Yard.{IsPassOf, YardView}
use Rattle.geo_jobs.specs.declared.turn.Turn.{Turn}
use Rattle.geo_jobs.specs.Passes.{Goes, IsGoodPass, MeshPass}
use Rattle.geo_jobs.specs.declared.disk_job.DiskJob.{DiskJob}
use Rattle.geo_jobs.specs.Drives.{HasDrives, disks_of}
use Rattle.geo_jobs.specs.Served.{HasServed, IsOfDisks}
use Rattle.geo_jobs.specs.Turns.{DidDiskTurn}

-- a disk worker went on: what its pass added are Takes of its disks and their Delivers, and its drives did what these
-- say
pub record DisksRan {D : Type 0} (seen : Drive D → DriveView) (p q : MeshPass) (before after : List (ℕ × Drive D))
    : Type 0 where
  pub added : List Entry
  pub goes : Goes p q added
  pub kinds : All (λ (e : Entry). IsOfDisks (disks_of before) e.step) added
  pub served : HasServed seen added before after

-- a worker that made no turn did nothing, and one that went on and then made one turn did what both did
pub record TurnsAddUp {D : Type 0} (seen : Drive D → DriveView) : Type 0 where
  pub none : (p : MeshPass) (drives : List (ℕ × Drive D)) → DisksRan seen p p drives drives
  pub one_more : (y : YardView _) (opened : World) (facts : List (ℕ × ℕ)) (p m q : MeshPass)
      (before : List (ℕ × Drive D)) (a b : DiskJob D) (r : Turn) → IsPassOf y p → IsGoodPass q
      → HasDrives facts seen a.drives.items → DisksRan seen p m before a.drives.items
      → DidDiskTurn opened seen m q a b r → DisksRan seen p q before b.drives.items
