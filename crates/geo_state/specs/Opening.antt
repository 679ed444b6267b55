-- The state before any disk stands.
use Rattle.std.specs.Prelude.{◌≡◌, [], None, List}
use Rattle.geo_model.specs.World.{Nothing}
use Rattle.geo_mesh.specs.Topo.{first_mesh}
use Rattle.geo_handles.specs.Handles.{no_handles}
use Rattle.geo_state.specs.declared.state.State.{State}
use Rattle.geo_state.specs.declared.state.DiskSeat.{DiskSeat}
use Rattle.geo_state.specs.declared.state.OwnBios.{OwnBios}

-- no geom stands for the disk, and nothing is at it
pub record IsFreeSeat (seat : DiskSeat) : Type 0 where
  pub geom : seat.geom ≡ None
  pub busy : seat.busy ≡ None

-- DEV and TASTE stand alone, and nothing is open or on its way
pub record IsEmpty (s : State) (seats : List DiskSeat) (actors : List OwnBios) : Type 0 where
  pub topo : s.topo ≡ first_mesh Nothing Nothing s.topo.room
  pub events : s.queue.events ≡ []
  pub handles : s.handles ≡ no_handles s.handles.room
  pub bios : s.traffic.bios ≡ []
  pub next_bio : s.traffic.next ≡ 1
  pub taste : s.taste ≡ None
  pub disks : s.disks.items ≡ seats
  pub own : s.own.items ≡ actors
