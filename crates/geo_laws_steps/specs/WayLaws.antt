-- Laws of the ways down from what bios use, along a step: each part of them stays, and so does the address map
-- (geom(4)).
use Rattle.std.specs.Prelude.{◌≡◌, ℕ, Bool, Option, Some, Contains, IsSomeAnd, IsTrue, option_map}
use Rattle.geo_model.specs.declared.step.Step.{Step}
use Rattle.geo_model.specs.Topology.{Topology, Geom, Provider, Consumer, geom_at, provider_at, consumer_at}
use Rattle.geo_model.specs.Rank.{Ranked}
use Rattle.geo_model.specs.World.{World, Config, Bio}
use Rattle.geo_model.specs.Place.{components, flat, ends}
use Rattle.geo_model.specs.Laws.{world_by}
use Rattle.geo_model.specs.Fitting.{Firm}
use Rattle.geo_laws_maps.specs.Ways.{IsWays, Used}

-- the provider is the same but that it may carry an error
pub record IsSameProvider (x y : Provider) : Type 0 where
  pub number : y.number ≡ x.number
  pub geom : y.geom ≡ x.geom
  pub name : y.name ≡ x.name
  pub sector : y.sector ≡ x.sector
  pub size : y.size ≡ x.size

-- the geom is of the same class and configuration
pub record IsSameGeom (x y : Geom Config) : Type 0 where
  pub number : y.number ≡ x.number
  pub kind : y.kind ≡ x.kind
  pub config : y.config ≡ x.config

-- the consumer is of the same geom, and attached to the same provider
pub record IsSameConsumer (x y : Consumer) : Type 0 where
  pub number : y.number ≡ x.number
  pub geom : y.geom ≡ x.geom
  pub provider : y.provider ≡ x.provider

-- from the one graph to the other each provider of a set stands with its geom and the geom's components, the same
-- but for errors, withering, started requests and marks
pub record KeepsWays (U : ℕ → Type 0) (t u : Topology Config) : Type 0 where
  pub provider : (p : ℕ) (x : Provider) → U p → provider_at t p ≡ Some x
      → IsSomeAnd (provider_at u p) (IsSameProvider x)
  pub geom : (p : ℕ) (x : Provider) (g : Geom Config) → U p → provider_at t p ≡ Some x → geom_at t x.geom ≡ Some g
      → IsSomeAnd (geom_at u x.geom) (IsSameGeom g)
  pub consumer : (p : ℕ) (x : Provider) (g : Geom Config) (c : ℕ) (d : Consumer) → U p → provider_at t p ≡ Some x
      → geom_at t x.geom ≡ Some g → Contains (components g.config) c → consumer_at t c ≡ Some d
      → IsSomeAnd (consumer_at u c) (IsSameConsumer d)

-- the sector size of a provider and its media size
abbrev pub sizes_at : Topology Config → ℕ → Option (ℕ × ℕ)
sizes_at t p = option_map {U = ℕ × ℕ} (λ x. (x.sector, x.size)) (provider_at t p)

-- a provider has the same sizes in both graphs, each offset of it lies in the same sector of a disk, and the same
-- disks are reached from it
pub record SameMap (t u : Topology Config) (p : ℕ) : Type 0 where
  pub sizes : sizes_at u p ≡ sizes_at t p
  pub sectors : (o : ℕ) → flat u p o ≡ flat t p o
  pub disks : ends u p ≡ ends t p

-- where the providers that pass a test are closed downwards and kept, they have the same map
pub record WaysKeepMaps : Type 0 where
  pub maps : (t u : Topology Config) (test : ℕ → Bool) → IsWays t (λ p. IsTrue (test p))
      → KeepsWays (λ p. IsTrue (test p)) t u → Ranked t → Ranked u
      → (p : ℕ) → IsTrue (test p) → SameMap t u p

-- each step of a firm mesh, by any seat, keeps all that bios use; so the map of each bio's target stays
pub record StepsKeepUsed : Type 0 where
  pub ways : (w : World) (seat : ℕ) (s : Step) → Firm w
      → KeepsWays (Used w) w.topology (world_by w seat s).topology
  pub maps : (w : World) (seat : ℕ) (s : Step) (x : Bio) → Firm w → Contains w.bios x
      → SameMap w.topology (world_by w seat s).topology x.target
