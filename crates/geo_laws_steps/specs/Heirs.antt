-- Graphs that come from another: each part is new or stood there (geom(4)).
use Rattle.std.specs.Prelude.{◌≡◌, ◌⊎◌, ℕ, ◌≤◌, List, [], Contains}
use Rattle.geo_model.specs.Topology.{Topology, Geom, Provider, Consumer, providers_of}
use Rattle.geo_model.specs.World.{World, Config, Bio}
use Rattle.geo_laws_life.specs.LessLaws.{ComesFrom}

-- an item has a number from the next one on, or comes from one of the list
abbrev pub IsOld : {X : Type 0} → (X → ℕ) → ℕ → (X → X → Type 0) → List X → X → Type 0
IsOld number next R xs y = (next ≤ number y) ⊎ ComesFrom R xs y

-- the geom stays what it is but for its flags, and for its configuration where it is touched
pub record IsHeirGeom (T : ℕ → Type 0) (x y : Geom Config) : Type 0 where
  pub number : y.number ≡ x.number
  pub kind : y.kind ≡ x.kind
  pub config : (T x.number → ⊥) → y.config ≡ x.config

-- the provider stays what it is but for its error, and for its size where its geom is touched
pub record IsHeirProvider (T : ℕ → Type 0) (x y : Provider) : Type 0 where
  pub number : y.number ≡ x.number
  pub geom : y.geom ≡ x.geom
  pub name : y.name ≡ x.name
  pub sector : y.sector ≡ x.sector
  pub size : (T x.geom → ⊥) → y.size ≡ x.size

-- the consumer stays what it is but for its mark
pub record IsHeirConsumer (x y : Consumer) : Type 0 where
  pub number : y.number ≡ x.number
  pub geom : y.geom ≡ x.geom
  pub provider : y.provider ≡ x.provider

-- each part of the second graph is new or stood in the first, where only the geoms of T are touched
pub record Inherits (T : ℕ → Type 0) (t u : Topology Config) : Type 0 where
  pub next_geom : t.next_geom ≤ u.next_geom
  pub next_provider : t.next_provider ≤ u.next_provider
  pub next_consumer : t.next_consumer ≤ u.next_consumer
  pub geoms : (y : Geom Config) → Contains u.geoms y
      → IsOld (λ x. x.number) t.next_geom (IsHeirGeom T) t.geoms y
  pub providers : (y : Provider) → Contains u.providers y
      → IsOld (λ x. x.number) t.next_provider (IsHeirProvider T) t.providers y
  pub consumers : (y : Consumer) → Contains u.consumers y
      → IsOld (λ x. x.number) t.next_consumer IsHeirConsumer t.consumers y

-- a geom of this number has no provider
abbrev pub IsBare : Topology Config → ℕ → Type 0
IsBare t n = providers_of t n ≡ []

-- from the one mesh to the other each part of the graph is new or stood before, where at most geoms without
-- providers are touched, and each bio stays
pub record Follows (w v : World) : Type 0 where
  pub heir : Inherits (IsBare w.topology) w.topology v.topology
  pub bios : (x : Bio) → Contains w.bios x → Contains v.bios x
