-- The workers of a run that begin, and who looks at what they show.
use Rattle.std.specs.Prelude.{◌≡◌, ℕ, ◌+◌, List, length}
use Rattle.geo_disk.specs.declared.drive.Drive.{Drive}
use Rattle.geo_serve.specs.Drives.{DriveView}
use Rattle.geo_jobs.specs.declared.lanes.Lanes.{Lanes}
use Rattle.geo_jobs.specs.Passes.{MeshPass}
use Rattle.geo_jobs.specs.declared.crew.Crew.{Crew}
use Rattle.geo_jobs.specs.Started.{AreStarted, IsFirst, MeshYard}
use Rattle.geo_jobs.specs.Viewed.{LooksAtFirst}

-- the workers of so many actors begin, with these drives, and whoever looks looks at what the first of them shows
pub record Begins {D : Type 0} (y : MeshYard) (lanes : Lanes) (seen : Drive D → DriveView) (actors : ℕ)
    (drives : List (Drive D)) (first : MeshPass) (c : Crew D) : Type 0 where
  pub first_is : IsFirst y (actors + 6) first
  pub started : AreStarted y lanes seen actors drives 1 c.workers.items
  pub many : length c.workers.items ≡ actors + 5
  pub looks : LooksAtFirst c.watcher c.workers.items
