-- What contracts see of the drives of a worker.
use Rattle.std.specs.Prelude.{ℕ, List}
use Rattle.geo_disk.specs.declared.drive.Drive.{Drive}

-- the numbers of disks, each with the drive of the disk, and how many more can be pushed
pub record DriveListView (D : Type 0) : Type 0 where
  pub items : List (ℕ × Drive D)
  pub spare : ℕ
