-- A disk in memory as contracts see it.
use Rattle.std.specs.Prelude.{◌≡◌, ℕ, ◌-◌, ◌%◌, ◌<◌, min, List, ◌∷◌, [], ◌++◌, length, Some, is_some}
use Rattle.geo_base.specs.Sectors.{cut_into, with_sectors, zero_sectors}
use Rattle.geo_disk.specs.Counts.{counted_if, counted_on}
use Rattle.geo_disk.specs.Disk.{DiskView}
use Rattle.geo_disk.specs.Calls.{CallMade}

-- what a disk in memory is
pub record Memory : Type 0 where
  -- its sector size, and the bytes of its sectors
  pub sector : ℕ
  pub sectors : List (List ℕ)
  -- the numbers of the calls that are to fail, and how many calls there were
  pub fails : List ℕ
  pub calls : ℕ
  -- how many calls failed
  pub faults : ℕ
  -- how many sectors a write or zero that fails still does
  pub part : ℕ
  -- what it was asked and what it answered, in order
  pub asked : List CallMade

-- a disk in memory tells its sectors
abbrev pub memory_view : Memory → DiskView
memory_view m = record {
  held = Some m.sectors;
  sector = m.sector;
  count = length m.sectors;
  faults = m.faults;
  asked = m.asked;
}

-- the bytes of a disk are one or more whole sectors
pub record AreWhole (sector : ℕ) (bytes : List ℕ) : Type 0 where
  pub some_size : 0 < sector
  pub some_byte : 0 < length bytes
  pub whole : length bytes % sector ≡ 0

-- the disk after one more call
abbrev pub called : CallMade → Memory → Memory
called call m = record m {
  calls = counted_on m.calls;
  faults = counted_if (is_some call.failed) m.faults;
  asked = m.asked ++ call ∷ [];
}

-- how many sectors of so many a failing write or zero does: as many as was said, but never all
abbrev pub part_of : ℕ → ℕ → ℕ
part_of part all = min part (all - 1)

-- the disk after the first n sectors of these bytes were written from the first on
abbrev pub after_write : Memory → ℕ → ℕ → List ℕ → Memory
after_write m first n bytes = record m { sectors = with_sectors m.sectors first (cut_into n m.sector bytes) }

-- the disk after n sectors from the first on were zeroed
abbrev pub after_zero : Memory → ℕ → ℕ → Memory
after_zero m first n = record m { sectors = with_sectors m.sectors first (zero_sectors n m.sector) }
