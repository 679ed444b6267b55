-- What the jobs of the tests take.
use Rattle.std.specs.Prelude.{◌≡◌, ℕ, ◌≤◌, List, [], ◌∷◌, length, vec_capacity}
use Rattle.atomic_table.specs.Seated.{TableId}
use Rattle.geo_disk.specs.Memory.{Memory, memory_view}
use Rattle.geo_disk.specs.declared.drive.Drive.{Drive}
use Rattle.geo_serve.specs.Drives.{DriveView, drive_view}
use Rattle.geo_lane.specs.LanePass.{LanePassView}
use Rattle.geo_jobs.specs.declared.lanes.Lanes.{Lanes}
use Rattle.geo_jobs.specs.Drives.{HasDrives}
use Rattle.geo_tests_jobs.specs.declared.rooms.Room.{Room}
use Rattle.geo_tests_jobs.specs.declared.rooms.Takers.{Takers}

-- the sizes of the two disks
abbrev pub two_facts : List (ℕ × ℕ)
two_facts = (512, 16) ∷ (512, 16) ∷ []

-- a disk of 16 sectors of 512 bytes
pub record IsSmall (m : Memory) : Type 0 where
  pub sector : m.sector ≡ 512
  pub count : length m.sectors ≡ 16

-- a drive whose disk is in memory, as requests find it
abbrev pub seen_drive : Drive Memory → DriveView
seen_drive = drive_view memory_view

-- the pass 0 of a lane, which put nothing, and of which no more than so many passes were made
pub record IsTaker (lane : TableId) (most : ℕ) (p : LanePassView) : Type 0 where
  pub lane_is : p.lane ≡ lane
  pub first : p.sender ≡ 0
  pub put : p.put ≡ []
  pub few : p.split ≤ most

-- those of all lanes
pub record AreTakers (lanes : Lanes) (most : ℕ) (t : Takers) : Type 0 where
  pub down : IsTaker lanes.down most t.down
  pub up : IsTaker lanes.up most t.up
  pub disk0 : IsTaker lanes.disk0 most t.disk0
  pub disk1 : IsTaker lanes.disk1 most t.disk1

-- a pass of a lane that put nothing
pub record IsPutter (lane : TableId) (p : LanePassView) : Type 0 where
  pub lane_is : p.lane ≡ lane
  pub put : p.put ≡ []

-- each disk worker has its disk, and there is room for seven workers and for a pass more
pub record HasRoom (r : Room) : Type 0 where
  pub first : HasDrives two_facts seen_drive r.first.items
  pub second : HasDrives two_facts seen_drive r.second.items
  pub no_worker : r.workers.items ≡ []
  pub workers : 7 ≤ vec_capacity r.workers
  pub no_pass : r.passes.items ≡ []
  pub passes : 8 ≤ r.passes.spare
  pub takers : AreTakers r.lanes 0 r.takers
