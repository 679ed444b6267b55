-- The ways from a provider down to the disks, and sets of providers that are closed under them (geom(4)).
use Rattle.std.specs.Prelude.{◌≡◌, ◌≢◌, ℕ, List, [], ◌∷◌, Some, Contains}
use Rattle.geo_model.specs.Topology.{Topology, Geom, Provider, Consumer, geom_at, provider_at, consumer_at, provider_of_consumer}
use Rattle.geo_model.specs.Demand.{have, no_counts}
use Rattle.geo_model.specs.World.{World, Config, Bio, granted_in}
use Rattle.geo_model.specs.Place.{components}

-- a component of a geom is a consumer of it that stands, attached to a provider of the set
pub record LeadsInto (t : Topology Config) (U : ℕ → Type 0) (g : Geom Config) (c : ℕ) : Type 0 where
  pub consumer : Consumer
  pub found : consumer_at t c ≡ Some consumer
  pub own : consumer.geom ≡ g.number
  pub under : ℕ
  pub attached : consumer.provider ≡ Some under
  pub inside : U under

-- the provider stands with its geom, and each component of the geom leads into the set
pub record GoesDown (t : Topology Config) (U : ℕ → Type 0) (p : ℕ) : Type 0 where
  pub provider : Provider
  pub found : provider_at t p ≡ Some provider
  pub geom : Geom Config
  pub of : geom_at t provider.geom ≡ Some geom
  pub below : (c : ℕ) → Contains (components geom.config) c → LeadsInto t U geom c

-- a set of providers with all that is reached downwards from them
abbrev pub IsWays : Topology Config → (ℕ → Type 0) → Type 0
IsWays t U = (p : ℕ) → U p → GoesDown t U p

-- a component of the geom of the one provider is attached to the other
pub record IsNextUnder (t : Topology Config) (top p : ℕ) : Type 0 where
  pub provider : Provider
  pub found : provider_at t top ≡ Some provider
  pub geom : Geom Config
  pub of : geom_at t provider.geom ≡ Some geom
  pub component : ℕ
  pub is : Contains (components geom.config) component
  pub attached : provider_of_consumer t component ≡ Some p

-- a way down from a provider to another, over the providers that it meets after the first
abbrev pub IsWay : Topology Config → ℕ → List ℕ → ℕ → Type 0
IsWay t top [] p = top ≡ p
IsWay t top (q ∷ over) p = IsNextUnder t top q × IsWay t q over p

-- the one provider is the other, or is reached downwards from it
pub record IsUnder (t : Topology Config) (top p : ℕ) : Type 0 where
  pub over : List ℕ
  pub way : IsWay t top over p

-- the provider has a count
abbrev pub IsOpen : World → ℕ → Type 0
IsOpen w p = have (granted_in w) w.topology p ≢ no_counts

-- the provider is one to which a bio goes, or is reached downwards from such a one
pub record Used (w : World) (p : ℕ) : Type 0 where
  pub bio : Bio
  pub stands : Contains w.bios bio
  pub under : IsUnder w.topology bio.target p
