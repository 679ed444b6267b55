-- A drive as requests find it.
use Rattle.std.specs.Prelude.{◌≡◌, ℕ, List, length, All, Option, Some, None, IfSome}
use Rattle.std.specs.Option.{option_map}
use Rattle.geo_disk.specs.Calls.{CallMade}
use Rattle.geo_disk.specs.declared.drive.Drive.{Drive}
use Rattle.geo_disk.specs.declared.drive.Drive.TheVariants.{Ram, Shelved}
use Rattle.geo_disk.specs.Counts.{counted_on}
use Rattle.geo_disk.specs.Disk.{DiskView}
use Rattle.geo_disk.specs.Drive.{view_by}

-- the calls of a disk in memory
pub record RamCalls : Type 0 where
  -- the numbers of those that are to fail
  pub fails : List ℕ
  -- how many there were
  pub calls : ℕ

-- a drive at one moment
pub record DriveView : Type 0 where
  -- its calls, if it is a disk in memory and not one of a shelf
  pub ram : Option RamCalls
  -- the bytes of each sector, where it tells them
  pub held : Option (List (List ℕ))
  -- how many bytes a sector has
  pub sector : ℕ
  -- how many sectors there are
  pub count : ℕ
  -- how many calls failed
  pub faults : ℕ
  -- what it was asked and what it answered, in order
  pub asked : List CallMade

-- the calls, if it is a disk in memory
abbrev pub ram_calls : {D : Type 0} → Drive D → Option RamCalls
ram_calls (Ram disk) = Some (record { fails = disk.fails; calls = disk.calls })
ram_calls (Shelved disk) = None

-- a drive, by what a disk of the shelf shows
abbrev pub drive_view : {D : Type 0} → (D → DiskView) → Drive D → DriveView
drive_view view drive = record {
  ram = ram_calls drive;
  held = (view_by view drive).held;
  sector = (view_by view drive).sector;
  count = (view_by view drive).count;
  faults = (view_by view drive).faults;
  asked = (view_by view drive).asked;
}

-- one call more
abbrev pub called_once : RamCalls → RamCalls
called_once c = record c { calls = counted_on c.calls }

-- the numbers of the calls that are to fail, if it is a disk in memory
abbrev pub fails_of : DriveView → Option (List ℕ)
fails_of d = option_map (λ c. c.fails) d.ram

-- each sector that the drive tells has its size
abbrev pub HasWholeSectors : DriveView → Type 0
HasWholeSectors d = IfSome d.held (λ sectors. All (λ s. length s ≡ d.sector) sectors)

-- it tells as many sectors as it has
abbrev pub HasAllSectors : DriveView → Type 0
HasAllSectors d = IfSome d.held (λ sectors. length sectors ≡ d.count)
