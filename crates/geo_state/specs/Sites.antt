-- Geoms, providers and consumers that come and go, by commands, tastes and washes: what changes, and that all is kept.
use Rattle.std.specs.Prelude.{◌≡◌, ℕ, ◌+◌, List, [], ◌∷◌, ◌++◌, length, map, Option, Some, None}
use Rattle.std.specs.List.{AllByRecursion}
use Rattle.geo_model.specs.declared.step.Entry.{Entry}
use Rattle.geo_model.specs.Topology.{Geom, Consumer, attached_to, geom_at, providers_of}
use Rattle.geo_model.specs.World.{Config, Taste, granted_of}
use Rattle.geo_model.specs.Place.{disk_of}
use Rattle.geo_event.specs.EventQueue.{Queued}
use Rattle.geo_mesh.specs.Topo.{TopoView, IsButForRoom, without_geom, without_provider, without_consumer}
use Rattle.geo_slots.specs.Slots.{value_at}
use Rattle.geo_access.specs.Access.{granted_by}
use Rattle.geo_state.specs.declared.state.State.{State}
use Rattle.geo_state.specs.declared.state.DiskSeat.{DiskSeat}
use Rattle.geo_state.specs.Parts.{disk_row, owner_row, geom_of_disk}
use Rattle.geo_state.specs.Seats.{with_disk_geom}
use Rattle.geo_state.specs.World.{StandsFirm}
use Rattle.geo_state.specs.Holds.{Holds}
use Rattle.geo_state.specs.Changes.{IsSettled}

-- the rows of consumers, geoms and providers that come, at the ends: nothing is out through the consumers
pub record Comers : Type 0 where
  pub consumers : List ℕ
  pub geoms : List (ℕ × Option ℕ)
  pub providers : List (ℕ × ℕ)

-- a number with nothing out
abbrev pub no_row : ℕ → ℕ × ℕ
no_row c = (c, 0)

-- from the one mesh to the other these came, and all else is where it was
pub record HasComers (t u : TopoView Config) (new : Comers) : Type 0 where
  pub consumers : map (λ (x : Consumer). x.number) u.topology.consumers
      ≡ map (λ (x : Consumer). x.number) t.topology.consumers ++ new.consumers
  pub active : u.active ≡ t.active ++ map no_row new.consumers
  pub geoms : map disk_row u.topology.geoms ≡ map disk_row t.topology.geoms ++ new.geoms
  pub providers : map owner_row u.topology.providers ≡ map owner_row t.topology.providers ++ new.providers

-- none of the consumers is there yet
abbrev pub AreFresh : TopoView Config → List ℕ → Type 0
AreFresh t cs = AllByRecursion (λ c. value_at t.active c ≡ None) cs

-- all is kept after parts came, none of a disk
abbrev pub KeptAfterComers : Type 0
KeptAfterComers =
    (log : List Entry) (s : State) (u : TopoView Config) (q : Queued) (taste : Option Taste) (new : Comers)
    → Holds s → StandsFirm log s → HasComers s.topo u new → AreFresh s.topo new.consumers
    → AllByRecursion (λ (row : ℕ × Option ℕ). row.1 ≡ None) new.geoms
    → ((c : ℕ) → granted_by u c ≡ granted_of s.handles.handles taste c) → IsSettled u q
    → Holds (record s { topo = u; queue = q; taste = taste; providers = s.providers + length new.providers })

-- after a disk was inserted, which didn't stand
abbrev pub KeptAfterInsert : Type 0
KeptAfterInsert =
    (log : List Entry) (s new : State) (disk geom prov : ℕ)
    → Holds s → StandsFirm log s
    → HasComers s.topo new.topo
    (record { consumers = []; geoms = (geom, Some disk) ∷ []; providers = (prov, geom) ∷ [] })
    → geom_of_disk s.topo.topology disk ≡ None
    → ((c : ℕ) → granted_by new.topo c ≡ granted_by s.topo c) → IsSettled new.topo new.queue
    → new.disks.items ≡ with_disk_geom s.disks.items disk (Some geom)
    → new ≡ record s {
      topo = new.topo;
      queue = new.queue;
      disks = new.disks;
      providers = s.providers + 1;
    }
    → Holds new

-- after a provider went to which nothing was attached
abbrev pub KeptAfterProvider : Type 0
KeptAfterProvider =
    (log : List Entry) (s : State) (u : TopoView Config) (q : Queued) (prov : ℕ)
    → Holds s → StandsFirm log s → attached_to s.topo.topology prov ≡ []
    → IsButForRoom u (without_provider s.topo prov) → ((c : ℕ) → granted_by u c ≡ granted_by s.topo c) → IsSettled u q
    → Holds (record s { topo = u; queue = q; providers = length u.topology.providers })

-- after a consumer went through which nothing was out, and that held no count
abbrev pub KeptAfterConsumer : Type 0
KeptAfterConsumer =
    (s : State) (u : TopoView Config) (q : Queued) (taste : Option Taste) (cons : ℕ)
    → Holds s → IsButForRoom u (without_consumer s.topo cons)
    → ((c : ℕ) → granted_by u c ≡ granted_of s.handles.handles taste c) → IsSettled u q
    → Holds (record s { topo = u; queue = q; taste = taste })

-- the seats once a geom is gone, of a disk or not
abbrev pub seats_without : List DiskSeat → Option ℕ → List DiskSeat
seats_without seats None = seats
seats_without seats (Some disk) = with_disk_geom seats disk None

-- after a geom went that had no provider
abbrev pub KeptAfterGeom : Type 0
KeptAfterGeom =
    (log : List Entry) (s new : State) (geom : ℕ) (g : Geom Config) → Holds s → StandsFirm log s
    → geom_at s.topo.topology geom ≡ Some g → providers_of s.topo.topology geom ≡ []
    → IsButForRoom new.topo (without_geom s.topo geom)
    → ((c : ℕ) → granted_by new.topo c ≡ granted_by s.topo c) → IsSettled new.topo s.queue
    → new.disks.items ≡ seats_without s.disks.items (disk_of g.config)
    → new ≡ record s { topo = new.topo; disks = new.disks }
    → Holds new

-- all of these
pub record KeptWithSites : Type 0 where
  pub comers : KeptAfterComers
  pub inserted : KeptAfterInsert
  pub provider : KeptAfterProvider
  pub consumer : KeptAfterConsumer
  pub geom : KeptAfterGeom
