-- Steps of requests: what they ask of the state, and which parts of it they change.
use Rattle.std.specs.Prelude.{◌≡◌, ℕ, ◌+◌, ◌≤◌, ◌==◌, true, false, List, Option, Some, None, map, fold, count_by, IsSome, IsSomeAnd, IfSome, ⊤, slice_get}
use Rattle.std.specs.List.{AllByRecursion}
use Rattle.geo_model.specs.declared.step.Owner.{Owner}
use Rattle.geo_model.specs.declared.step.Owner.TheVariants as owners
use Rattle.geo_model.specs.Topology.{consumer_at}
use Rattle.geo_model.specs.World.{Config, Handle, is_taste_root, bio_among}
use Rattle.geo_model.specs.Bios.{disk_at}
use Rattle.geo_handles.specs.Handles.{handle_at, holding_handle}
use Rattle.geo_mesh.specs.Topo.{TopoView, with_active}
use Rattle.geo_state.specs.declared.state.State.{State}
use Rattle.geo_state.specs.declared.state.OwnBios.{OwnBios}
use Rattle.geo_state.specs.Own.{left_by}
use Rattle.geo_state.specs.Trips.{Trip, trips, is_at_disk}
use Rattle.geo_state.specs.World.{disk_of_seat}

-- only the requests on their way are others, with what is kept of them
pub record OnlyBios (old new : State) : Type 0 where
  pub rest : new ≡ record old {
    topo = record old.topo { active = new.topo.active };
    handles = record old.handles { ready = new.handles.ready };
    traffic = new.traffic;
    read = new.read;
    disks = new.disks;
    own = new.own;
  }
  pub disks : map disk_of_seat new.disks.items ≡ map disk_of_seat old.disks.items

-- one more request out through each of the consumers, in order
abbrev pub all_out : TopoView Config → List (ℕ × ℕ) → TopoView Config
all_out t zs = fold (λ u z. with_active u z.0 (λ n. n + 1)) t zs

-- the bio goes to the disk
abbrev pub GoesTo : State → ℕ → ℕ → Type 0
GoesTo s bio disk = IsSomeAnd (bio_among s.traffic.bios bio) (λ x. disk_at s.topo.topology x.target ≡ Some disk)

-- nothing is at the disk, which is one of the header
abbrev pub IsFree : State → ℕ → Type 0
IsFree s disk = IsSomeAnd (slice_get s.disks.items disk) (λ seat. seat.busy ≡ None)

-- nothing but the bio is at the disk
abbrev pub IsAloneAt : State → ℕ → ℕ → Type 0
IsAloneAt s bio disk =
    AllByRecursion (λ (z : Trip). is_at_disk s.topo.topology disk z ≡ true → (z.number == bio) ≡ true)
    (trips s.traffic.bios)

-- the handle is there, isn't dead and has the consumer
pub record IsAsking (s : State) (handle consumer : ℕ) : Type 0 where
  pub holds : IsSomeAnd (handle_at s.handles.handles handle) (λ h. (h.consumer ≡ Some consumer) × (h.dead ≡ false))
  pub lives : IsSome (consumer_at s.topo.topology consumer)

-- the consumer is there, and no handle has it
pub record IsNoHandles (s : State) (consumer : ℕ) : Type 0 where
  pub lives : IsSome (consumer_at s.topo.topology consumer)
  pub nobodys : holding_handle s.handles.handles consumer ≡ None

-- whose the root is: it came through the consumer of its handle, or is the only one of the taste
abbrev pub IsOfItsOwner : State → ℕ → Owner → Type 0
IsOfItsOwner s source (owners.Line handle line) =
    IsSomeAnd (handle_at s.handles.handles handle) (λ h. h.consumer ≡ Some source)
IsOfItsOwner s source owners.Taste =
    (count_by (λ x. is_taste_root x.owner) (trips s.traffic.bios) ≤ 1)
    × (holding_handle s.handles.handles source ≡ None)
IsOfItsOwner s source (owners.Child parent index) = holding_handle s.handles.handles source ≡ None

-- the bio that goes up came through a consumer that is there, of its owner
abbrev pub CameThrough : State → ℕ → Type 0
CameThrough s bio =
    IsSomeAnd (bio_among s.traffic.bios bio) (λ x.
    IsSome (consumer_at s.topo.topology x.source) × IsOfItsOwner s x.source x.owner)

-- an actor's own requests after one of a handle is back, if there is the handle
abbrev pub own_left : List OwnBios → Option Handle → List OwnBios
own_left owns None = owns
own_left owns (Some h) = left_by owns h.actor

-- actors' own requests, and the taste's read, after a request of the owner is back
abbrev pub own_after : State → Owner → List OwnBios
own_after s (owners.Line handle line) = own_left s.own.items (handle_at s.handles.handles handle)
own_after s owner = s.own.items

-- the taste's read after it
abbrev pub taste_read_after : State → Owner → Option ℕ
taste_read_after s owners.Taste = None
taste_read_after s owner = s.read

-- the actor of the owner's handle has a request out
abbrev pub CanLeave : State → Owner → Type 0
CanLeave s (owners.Line handle line) =
    IfSome (handle_at s.handles.handles handle) (λ h. IfSome (slice_get s.own.items h.actor) (λ own. 1 ≤ own.count))
CanLeave s owner = ⊤
