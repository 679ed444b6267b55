-- The world that a state stands for.
use Rattle.std.specs.Prelude.{List, length, map}
use Rattle.geo_model.specs.declared.command.LineCommand.{LineCommand}
use Rattle.geo_model.specs.declared.step.Entry.{Entry}
use Rattle.geo_model.specs.World.{World, HeaderDisk}
use Rattle.geo_model.specs.Fitting.{Firm}
use Rattle.geo_log.specs.Places.{delivered_at}
use Rattle.geo_state.specs.declared.state.State.{State}
use Rattle.geo_state.specs.declared.state.DiskSeat.{DiskSeat}
use Rattle.geo_state.specs.Shown.{shown_bios, AreLogged}

-- a disk's seat as the model's disk
abbrev pub disk_of_seat : DiskSeat → HeaderDisk
disk_of_seat seat = record { name = seat.name; sector = seat.sector; size = seat.size }

-- the world that a state stands for, where the actors have these commands left and the log has these entries
abbrev pub world : List (List LineCommand) → List Entry → State → World
world actors log s = record {
  topology = s.topo.topology;
  handles = s.handles.handles;
  bios = shown_bios (delivered_at log) s.traffic.bios;
  events = s.queue.events;
  taste = s.taste;
  actors = actors;
  disks = map disk_of_seat s.disks.items;
  next_handle = s.handles.next;
  next_bio = s.traffic.next;
}

-- with some commands left it stands for a sound, steady and fitting world
abbrev pub StandsFirm : List Entry → State → Type 0
StandsFirm log s = (actors : List (List LineCommand)) × Firm (world actors log s)

-- the bytes that the bios name are in the log
abbrev pub HasBytes : List Entry → State → Type 0
HasBytes log s = AreLogged (length log) s.traffic.bios
