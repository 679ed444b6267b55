-- The disk of the tests.
use Rattle.std.specs.Prelude.{◌≡◌, ℕ, List, [], ◌∷◌, length}
use Rattle.geo_disk.specs.Memory.{Memory, memory_view}
use Rattle.geo_disk.specs.declared.drive.Drive.{Drive}
use Rattle.geo_serve.specs.Drives.{DriveView, drive_view}

-- the sizes of the disk
abbrev pub one_fact : List (ℕ × ℕ)
one_fact = (512, 8) ∷ []

-- a disk of eight sectors of 512 bytes
pub record IsSmall (m : Memory) : Type 0 where
  pub sector : m.sector ≡ 512
  pub count : length m.sectors ≡ 8

-- a drive whose disk is in memory, as requests find it
abbrev pub seen_drive : Drive Memory → DriveView
seen_drive = drive_view memory_view
