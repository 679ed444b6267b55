-- What the parts beside the graph read of it: disks of geoms, geoms of providers and the numbers of consumers.
use Rattle.std.specs.Prelude.{◌≡◌, ℕ, ◌==◌, false, not, List, [], ◌∷◌, ◌++◌, Some, Option, map, filter, find, IsSome, IsSomeAnd, IsTrue, ⊤}
use Rattle.std.specs.List.{AllByRecursion}
use Rattle.std.specs.Option.{option_map}
use Rattle.geo_model.specs.declared.step.Owner.{Owner}
use Rattle.geo_model.specs.declared.step.Owner.TheVariants as owners
use Rattle.geo_model.specs.Topology.{Topology, Geom, Provider, Consumer, consumer_at, provider_at}
use Rattle.geo_model.specs.World.{Config, Handle, is_root}
use Rattle.geo_model.specs.Place.{disk_of}
use Rattle.geo_model.specs.Bios.{disk_at}
use Rattle.geo_model.specs.GeomCommands.{is_geom_of_disk}
use Rattle.geo_slots.specs.Slots.{without}
use Rattle.geo_mesh.specs.Topo.{TopoView}
use Rattle.geo_state.specs.Trips.{Trip}

-- the number of the disk's geom
abbrev pub geom_of_disk : Topology Config → ℕ → Option ℕ
geom_of_disk t disk = option_map (λ g. g.number) (find (is_geom_of_disk disk) t.geoms)

-- a geom's number with its disk, and a provider's with its geom
abbrev pub disk_row : Geom Config → ℕ × Option ℕ
disk_row g = (g.number, disk_of g.config)

abbrev pub owner_row : Provider → ℕ × ℕ
owner_row p = (p.number, p.geom)

-- each geom's number with its disk, each provider's with its geom, and the consumers' numbers are the same
pub record SameParts (t u : Topology Config) : Type 0 where
  pub geoms : map disk_row u.geoms
      ≡ map disk_row t.geoms
  pub providers : map owner_row u.providers
      ≡ map owner_row t.providers
  pub consumers : map (λ (c : Consumer). c.number) u.consumers ≡ map (λ (c : Consumer). c.number) t.consumers

-- each disk has the geom that it had, and each request on its way goes to the disk to which it went
pub record DisksStay (t u : Topology Config) (xs : List Trip) : Type 0 where
  pub geoms : (disk : ℕ) → geom_of_disk u disk ≡ geom_of_disk t disk
  pub targets : AllByRecursion (λ x. disk_at u x.target ≡ disk_at t x.target) xs

-- a consumer came, with nothing out through it
pub record Comes (t u : TopoView Config) (c : ℕ) : Type 0 where
  pub consumers : map (λ (x : Consumer). x.number) u.topology.consumers
      ≡ map (λ (x : Consumer). x.number) t.topology.consumers ++ c ∷ []
  pub active : u.active ≡ t.active ++ (c, 0) ∷ []

-- a consumer is gone
pub record IsGone (t u : TopoView Config) (c : ℕ) : Type 0 where
  pub consumers : u.topology.consumers ≡ filter (λ x. not (x.number == c)) t.topology.consumers
  pub active : u.active ≡ without t.active c

-- the line's handle has the consumer
abbrev pub HasLineHandle : List Handle → ℕ → Owner → Type 0
HasLineHandle handles source (owners.Line handle line) =
    IsSomeAnd (find (λ h. h.number == handle) handles) (λ h. h.consumer ≡ Some source)
HasLineHandle handles source _ = ⊤

-- a request on its way is from a consumer to the provider to which the consumer is attached; where it is of a line, the
-- line's handle has the consumer; and a root isn't done
pub record IsUnderWay (t : Topology Config) (handles : List Handle) (x : Trip) : Type 0 where
  pub source : IsSomeAnd (consumer_at t x.source) (λ c. c.provider ≡ Some x.target)
  pub target : IsSome (provider_at t x.target)
  pub owner : HasLineHandle handles x.source x.owner
  pub root : IsTrue (is_root x.owner) → x.done ≡ false

-- each is
abbrev pub AreUnderWay : Topology Config → List Handle → List Trip → Type 0
AreUnderWay t handles xs = AllByRecursion (IsUnderWay t handles) xs
