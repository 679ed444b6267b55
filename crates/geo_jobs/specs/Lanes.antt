-- The passes of the lanes of a run.
use Rattle.std.specs.Prelude.{◌≡◌, ℕ, []}
use Rattle.atomic_table.specs.Seated.{TableId}
use Rattle.geo_lane.specs.LanePass.{LanePassView, first_pass}
use Rattle.geo_jobs.specs.declared.lanes.Lanes.{Lanes}
use Rattle.geo_jobs.specs.declared.passes.Passes.{Passes}
use Rattle.geo_jobs.specs.declared.passes.Takers.{Takers}

-- the pass 0 of a lane, which did nothing, and of which so many passes were made
abbrev pub taker_of : TableId → ℕ → LanePassView
taker_of lane split = record (first_pass lane) { split = split }

-- those of all lanes, where so many passes were made of that of the down lane and none of the others
abbrev pub takers_of : Lanes → ℕ → Takers
takers_of lanes split = record {
  down = taker_of lanes.down split;
  up = taker_of lanes.up 0;
  disk0 = taker_of lanes.disk0 0;
  disk1 = taker_of lanes.disk1 0;
}

-- a pass of the lane, which has put nothing
pub record IsPutter (lane : TableId) (p : LanePassView) : Type 0 where
  pub lane_is : p.lane ≡ lane
  pub put : p.put ≡ []

-- the pass 0 of the lane, which has put nothing
pub record IsTaker (lane : TableId) (p : LanePassView) : Type 0 where
  pub sender : p.sender ≡ 0
  pub putter : IsPutter lane p

-- the passes of the jobs that aren't clients, each of its lane
pub record ArePasses (lanes : Lanes) (p : Passes) : Type 0 where
  pub events_down : IsPutter lanes.down p.events_down
  pub down_takes : IsTaker lanes.down p.down_takes
  pub down_up : IsPutter lanes.up p.down_up
  pub down_disk0 : IsPutter lanes.disk0 p.down_disk0
  pub down_disk1 : IsPutter lanes.disk1 p.down_disk1
  pub up_takes : IsTaker lanes.up p.up_takes
  pub disk0_takes : IsTaker lanes.disk0 p.disk0_takes
  pub disk0_up : IsPutter lanes.up p.disk0_up
  pub disk1_takes : IsTaker lanes.disk1 p.disk1_takes
  pub disk1_up : IsPutter lanes.up p.disk1_up
