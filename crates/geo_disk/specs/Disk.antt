-- A disk at one moment, and what its calls do.
use Rattle.std.specs.Prelude.{◌≡◌, ℕ, ◌+◌, ◌/◌, ◌%◌, ◌<◌, ◌≤◌, List, length, Option, Result, Ok, Err, IfSome}
use Rattle.std.specs.Option.{option_map}
use Rattle.geo_base.specs.Sectors.{bytes_between, cut_into, with_sectors, zero_sectors}
use Rattle.geo_disk.specs.Calls.{CallMade}
use Rattle.geo_disk.specs.declared.disk.DiskFailed.{DiskFailed}

-- a disk at one moment
pub record DiskView : Type 0 where
  -- the bytes of each sector, where the disk tells them
  pub held : Option (List (List ℕ))
  -- how many bytes a sector has, which no call changes
  pub sector : ℕ
  -- how many sectors there are, which no call changes
  pub count : ℕ
  -- how many calls failed, exactly, up to the end of the count's type
  pub faults : ℕ
  -- what it was asked and what it answered: each call of read, write, zero and flush, in order, and nothing else
  pub asked : List CallMade

-- so many bytes are whole sectors, and from the first on they lie inside the disk
pub record AreSectors (sector count first bytes : ℕ) : Type 0 where
  pub some_size : 0 < sector
  pub whole : bytes % sector ≡ 0
  pub inside : first + bytes / sector ≤ count

-- the bytes are those of the sectors from the first on, where the disk tells them
abbrev pub IsRead : Option (List (List ℕ)) → ℕ → ℕ → List ℕ → Type 0
IsRead held sector first bytes = IfSome held (λ sectors. bytes ≡ bytes_between sectors first (length bytes / sector))

-- how many sectors of a call were done: all of them, or as many as the failure says
abbrev pub done_of : Result (Unit {0}) DiskFailed → ℕ → ℕ
done_of (Ok _) all = all
done_of (Err e) all = e.done

-- what a disk holds after the first n sectors of these bytes were written from the first on
abbrev pub written : ℕ → ℕ → ℕ → List ℕ → Option (List (List ℕ)) → Option (List (List ℕ))
written sector first n bytes held = option_map (λ sectors. with_sectors sectors first (cut_into n sector bytes)) held

-- what a disk holds after n sectors from the first on were zeroed
abbrev pub zeroed : ℕ → ℕ → ℕ → Option (List (List ℕ)) → Option (List (List ℕ))
zeroed sector first n held = option_map (λ sectors. with_sectors sectors first (zero_sectors n sector)) held
