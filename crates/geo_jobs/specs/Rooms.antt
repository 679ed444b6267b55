-- The memory of a run.
use Rattle.std.specs.Prelude.{◌≡◌, ℕ, ◌+◌, ◌≤◌, [], vec_capacity}
use Rattle.geo_jobs.specs.declared.lanes.Lanes.{Lanes}
use Rattle.geo_jobs.specs.declared.room.HomeRoom.{HomeRoom}
use Rattle.geo_jobs.specs.declared.room.Room.{Room}
use Rattle.geo_jobs.specs.declared.room.StartRoom.{StartRoom}
use Rattle.geo_jobs.specs.Lanes.{takers_of}

-- all is empty, with room to start the jobs of so many actors over so many drives; and no pass of a lane was made yet
pub record CanStart {D : Type 0} (lanes : Lanes) (actors drives : ℕ) (r : StartRoom D) : Type 0 where
  pub no_worker : r.workers.items ≡ []
  pub workers : actors + 5 ≤ vec_capacity r.workers
  pub no_even : r.even.items ≡ []
  pub even : drives ≤ r.even.spare
  pub no_odd : r.odd.items ≡ []
  pub odd : drives ≤ r.odd.spare
  pub takers : r.takers ≡ takers_of lanes 0

-- all is empty, with room for what comes home of so many workers
pub record CanComeHome {D : Type 0} (workers : ℕ) (r : HomeRoom D) : Type 0 where
  pub no_pass : r.passes.items ≡ []
  pub passes : workers + 1 ≤ r.passes.spare
  pub no_list : r.lists.items ≡ []
  pub lists : workers ≤ vec_capacity r.lists
  pub no_drive : r.back.items ≡ []

-- there is room for both, and for so many drives
pub record HasRoom {D : Type 0} (actors drives : ℕ) (r : Room D) : Type 0 where
  pub begins : CanStart r.lanes actors drives r.begins
  pub comes : CanComeHome (actors + 5) r.comes
  pub back : drives ≤ vec_capacity r.comes.back
