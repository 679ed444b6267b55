-- The disks of the header in a state.
use Rattle.std.specs.Prelude.{ℕ, Bool, List, Option, position}
use Rattle.geo_model.specs.Words.{same_name}
use Rattle.geo_model.specs.World.{HeaderDisk}
use Rattle.geo_state.specs.declared.state.DiskSeat.{DiskSeat}
use Rattle.geo_state.specs.World.{disk_of_seat}

-- whether the disk has the name
abbrev pub has_name : List ℕ → DiskSeat → Bool
has_name name seat = same_name seat.name name

-- the number of the first disk of the name
abbrev pub disk_named : List DiskSeat → List ℕ → Option ℕ
disk_named seats name = position (has_name name) seats

-- a disk of the header with its number, as the model has them
abbrev pub item_at : ℕ → DiskSeat → ℕ × HeaderDisk
item_at disk seat = (disk, disk_of_seat seat)
