-- A disk whose sectors wear out, and what its calls do.
use Rattle.std.specs.Prelude.{◌≡◌, ℕ, ◌+◌, nat_le, Bool, List, [], ◌∷◌, ◌++◌, length, map, take, drop, Some, is_some}
use Rattle.std.specs.List.{list_any, replace_range}
use Rattle.geo_base.specs.Sectors.{cut_into, with_sectors, zero_sectors}
use Rattle.geo_disk.specs.Calls.{CallMade}
use Rattle.geo_disk.specs.Counts.{counted_if, counted_on}
use Rattle.geo_disk.specs.Disk.{DiskView}
use Rattle.geo_disk.specs.Memory.{Memory}

-- such a disk at one moment
pub record Worn : Type 0 where
  -- its sector size, and the bytes of its sectors
  pub sector : ℕ
  pub sectors : List (List ℕ)
  -- how many writes a sector bears, and how many each had
  pub bears : ℕ
  pub writes : List ℕ
  -- how many calls failed, and what it was asked and what it answered, in order
  pub faults : ℕ
  pub asked : List CallMade

-- the memory under it never fails, and each of its sectors has a count
pub record HasCounts (memory : Memory) (writes : List ℕ) : Type 0 where
  pub sure : memory.fails ≡ []
  pub counted : length writes ≡ length memory.sectors

-- what any disk shows: it tells its sectors
abbrev pub worn_view : Worn → DiskView
worn_view w = record {
  held = Some w.sectors;
  sector = w.sector;
  count = length w.sectors;
  faults = w.faults;
  asked = w.asked;
}

-- whether one of n sectors from the first on bears no more
abbrev pub is_worn : ℕ → ℕ → ℕ → List ℕ → Bool
is_worn bears first n writes = list_any (nat_le bears) (take n (drop first writes))

-- one write more of each of n sectors from the first on
abbrev pub worn_on : ℕ → ℕ → List ℕ → List ℕ
worn_on first n writes = replace_range writes first (first + n) (map counted_on (take n (drop first writes)))

-- the disk after the first n sectors of these bytes were written from the first on
abbrev pub after_write : Worn → ℕ → ℕ → List ℕ → Worn
after_write w first n bytes = record w {
  sectors = with_sectors w.sectors first (cut_into n w.sector bytes);
  writes = worn_on first n w.writes;
}

-- the disk after n sectors from the first on were zeroed
abbrev pub after_zero : Worn → ℕ → ℕ → Worn
after_zero w first n = record w {
  sectors = with_sectors w.sectors first (zero_sectors n w.sector);
  writes = worn_on first n w.writes;
}

-- the disk after one more call, which is counted where it failed
abbrev pub told : CallMade → Worn → Worn
told call w = record w { faults = counted_if (is_some call.failed) w.faults; asked = w.asked ++ call ∷ [] }
