-- What is kept beside the parts of the mesh, so that nothing has to be searched.
use Rattle.std.specs.Prelude.{◌≡◌, ℕ, ◌+◌, ◌==◌, ◌≤◌, not, List, Option, length, map, count_by, slice_get, IfSome}
use Rattle.geo_base.specs.declared.request.Counts.{Counts}
use Rattle.geo_model.specs.Graph.{AreNumbers}
use Rattle.geo_model.specs.Topology.{Topology, Provider, Consumer}
use Rattle.geo_model.specs.World.{Config, Handle, Taste, granted_of}
use Rattle.geo_mesh.specs.Topo.{TopoView}
use Rattle.geo_access.specs.Access.{IsCounted, IsQuiet, granted_by}
use Rattle.geo_handles.specs.HandleLaws.{noted_handles}
use Rattle.geo_handles.specs.Handles.{HandlesView}
use Rattle.geo_state.specs.declared.state.State.{State}
use Rattle.geo_state.specs.declared.state.DiskSeat.{DiskSeat}
use Rattle.geo_state.specs.declared.state.OwnBios.{OwnBios}
use Rattle.geo_state.specs.Parts.{geom_of_disk}
use Rattle.geo_state.specs.Trips.{Trip, trips, out_through, can_be_reaped, taste_read, busy_at, IsOwnCount}

-- Grants

-- the stored counts of the consumers of DEV and TASTE are those grants
abbrev pub GrantsAgree : TopoView Config → List Handle → Option Taste → Type 0
GrantsAgree t handles taste = granted_by t ≡ granted_of handles taste

-- Requests out

-- each consumer's number with how many are out through it
abbrev pub OutAreCounted : TopoView Config → List Trip → Type 0
OutAreCounted t xs = t.active ≡ map (λ (c : Consumer). (c.number, out_through xs c.number)) t.topology.consumers

-- just the handles that can be reaped are noted
abbrev pub ReapableAreNoted : HandlesView → List Trip → Type 0
ReapableAreNoted v xs = v.ready ≡ noted_handles (can_be_reaped xs) v.handles

-- each actor's own requests are counted
abbrev pub AreOwn : List OwnBios → List Handle → List Trip → Type 0
AreOwn owns handles xs =
    (actor : ℕ) → IfSome (slice_get owns actor) (λ own. IsOwnCount handles xs actor own.count own.low)

-- Disks

-- the disk's geom, and the request that is at it
pub record IsSeat (t : Topology Config) (xs : List Trip) (disk : ℕ) (geom busy : Option ℕ) : Type 0 where
  pub geom_is : geom ≡ geom_of_disk t disk
  pub busy_is : busy ≡ busy_at t xs disk

-- each disk's seat has them
abbrev pub AreSeats : List DiskSeat → Topology Config → List Trip → Type 0
AreSeats seats t xs = (disk : ℕ) → IfSome (slice_get seats disk) (λ seat. IsSeat t xs disk seat.geom seat.busy)

-- Events

-- the places of the queue that are owed: one for the Orphan of each provider without an error, and one for the
-- NewProvider of each provider with a write count
abbrev pub owed_events : {C : Type 0} → TopoView C → ℕ
owed_events t =
    count_by (λ (p : Provider). not p.errored) t.topology.providers
    + count_by (λ (row : ℕ × Counts). not (row.1.w == 0)) t.haves

-- All of it

-- the stored counts are the sums of what is granted, no note is set, and the grants are those of the handles, which
-- stand in order of numbers, and of the taste; requests out, handles that can be reaped, actors' own requests, the
-- taste's read, the disks' seats and the number of the providers are kept; the queue has the places that are owed
pub record Holds (s : State) : Type 0 where
  pub counted : IsCounted s.topo
  pub quiet : IsQuiet s.topo
  pub numbers : AreNumbers (map (λ (h : Handle). h.number) s.handles.handles) s.handles.next
  pub grants : GrantsAgree s.topo s.handles.handles s.taste
  pub active : OutAreCounted s.topo (trips s.traffic.bios)
  pub ready : ReapableAreNoted s.handles (trips s.traffic.bios)
  pub own : AreOwn s.own.items s.handles.handles (trips s.traffic.bios)
  pub read : s.read ≡ taste_read (trips s.traffic.bios)
  pub seats : AreSeats s.disks.items s.topo.topology (trips s.traffic.bios)
  pub providers : s.providers ≡ length s.topo.topology.providers
  pub room : owed_events s.topo ≤ s.queue.spare
