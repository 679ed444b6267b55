-- What is kept beside the parts is what the mesh's definitions search for.
use Rattle.std.specs.Prelude.{◌≡◌, ℕ, ◌==◌, not, false, List, find, Some, slice_get}
use Rattle.std.specs.Option.{option_map, option_map_or}
use Rattle.geo_model.specs.declared.command.LineCommand.{LineCommand}
use Rattle.geo_model.specs.declared.step.Entry.{Entry}
use Rattle.geo_model.specs.World.{granted_in, is_active, is_taste_root}
use Rattle.geo_model.specs.Bios.{busy_bio}
use Rattle.geo_model.specs.Fitting.{Firm}
use Rattle.geo_model.specs.Freeing.{reap_work}
use Rattle.geo_model.specs.GeomCommands.{is_geom_of_disk}
use Rattle.geo_model.specs.Step.{own_bio}
use Rattle.geo_slots.specs.Slots.{value_at}
use Rattle.geo_access.specs.Access.{granted_by}
use Rattle.geo_handles.specs.Handles.{first_ready}
use Rattle.geo_state.specs.declared.state.State.{State}
use Rattle.geo_state.specs.declared.state.DiskSeat.{DiskSeat}
use Rattle.geo_state.specs.Trips.{trips, own_first}
use Rattle.geo_state.specs.World.{world}
use Rattle.geo_state.specs.Holds.{Holds}

-- what each consumer of DEV and TASTE is granted; whether a request is out through a consumer; the handle that is
-- reaped next; the taste's read; the geom of each disk, and the request that is at it; the first request of an actor's
-- own lines
pub record Shows (log : List Entry) (s : State) (actors : List (List LineCommand)) : Type 0 where
  pub granted : (c : ℕ) → granted_by s.topo c ≡ granted_in (world actors log s) c
  pub active : (c : ℕ) → option_map_or (λ n. not (n == 0)) (value_at s.topo.active c) false
      ≡ is_active (world actors log s) c
  pub reaps : first_ready s.handles.ready ≡ option_map (λ h. h.number) (reap_work (world actors log s))
  pub read : s.read ≡ option_map (λ x. x.number) (find (λ x. is_taste_root x.owner) (world actors log s).bios)
  pub geom : (disk : ℕ) (seat : DiskSeat) → slice_get s.disks.items disk ≡ Some seat
      → seat.geom ≡ option_map (λ g. g.number) (find (is_geom_of_disk disk) s.topo.topology.geoms)
  pub busy : (disk : ℕ) (seat : DiskSeat) → slice_get s.disks.items disk ≡ Some seat
      → seat.busy ≡ option_map (λ x. x.number) (busy_bio (world actors log s) disk)
  pub own : (actor : ℕ) → own_first s.handles.handles (trips s.traffic.bios) actor
      ≡ option_map (λ x. x.number) (own_bio (world actors log s) actor)

-- so it is in each state that holds what it keeps, and stands for a sound world
abbrev pub StatesShow : Type 0
StatesShow =
    (log : List Entry) (s : State) (actors : List (List LineCommand)) → Holds s → Firm (world actors log s)
    → Shows log s actors
