-- Changes of one disk's seat.
use Rattle.std.specs.Prelude.{ℕ, List, Option, Some, None, slice_get, slice_set}
use Rattle.geo_state.specs.declared.state.DiskSeat.{DiskSeat}

-- the seats with that of a disk changed, if there is one
abbrev pub change_seat : (DiskSeat → DiskSeat) → List DiskSeat → ℕ → Option DiskSeat → List DiskSeat
change_seat change seats disk None = seats
change_seat change seats disk (Some seat) = slice_set seats disk (change seat)

-- with another geom of the disk
abbrev pub with_disk_geom : List DiskSeat → ℕ → Option ℕ → List DiskSeat
with_disk_geom seats disk geom =
    change_seat (λ seat. record seat { geom = geom }) seats disk (slice_get seats disk)

-- with another request at the disk
abbrev pub with_busy_at : List DiskSeat → ℕ → Option ℕ → List DiskSeat
with_busy_at seats disk busy =
    change_seat (λ seat. record seat { busy = busy }) seats disk (slice_get seats disk)
