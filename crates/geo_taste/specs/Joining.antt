-- What is known of the standing geom of an assembly in which a provider may take a place.
use Rattle.std.specs.Prelude.{◌≡◌, ◌≢◌, ℕ, ◌==◌, All, Bool, true, not, ◌&&◌, List, [], Some, is_none, slice_get, option_and_then}
use Rattle.std.specs.List.{list_all}
use Rattle.std.specs.Option.{option_flatten, option_map_or}
use Rattle.geo_model.specs.Acceptance.{Member, places_of, is_same_assembly}
use Rattle.geo_model.specs.Place.{components}
use Rattle.geo_model.specs.Sound.{IsOfItsClass}
use Rattle.geo_model.specs.Steady.{AreMade}
use Rattle.geo_model.specs.Topology.{Topology, Geom, Provider, provider_at, provider_of_consumer, providers_of}
use Rattle.geo_model.specs.Words.{same_name}
use Rattle.geo_model.specs.World.{Config}
use Rattle.geo_mesh.specs.Topo.{first_provider}
use Rattle.geo_taste.specs.Making.{QueuedMesh}
use Rattle.geo_taste.specs.Accepting.{joined_at, with_member}
use Rattle.geo_taste.specs.Accepts.{AreWaiting, MakesSizes}

-- whether the geom is neither DEV nor TASTE and has no provider
abbrev pub is_bare : Topology Config → ℕ → Bool
is_bare t geom =
    not (geom == 1) && (not (geom == 2) && is_none (first_provider (providers_of t geom) 0))

-- what holds of a standing geom in a sound, steady and fitting mesh: it isn't DEV or TASTE, where the place is free it
-- has no provider, and what is made has sizes of providers
pub record MayJoin (m : QueuedMesh) (p : Provider) (x : Member) (g : Geom Config) : Type 0 where
  pub not_dev : g.number ≢ 1
  pub not_taste : g.number ≢ 2
  pub waits : is_none (option_flatten (slice_get (places_of g.config) x.place)) ≡ true
      → providers_of m.mesh.topology g.number ≡ []
  pub sizes : MakesSizes (joined_at m p x (Some g))

-- so for whichever geom the member joins
pub record MayBeMember (m : QueuedMesh) (p : Provider) (x : Member) : Type 0 where
  pub classes : All IsOfItsClass m.mesh.topology.geoms
  pub first : AreMade m.mesh.topology
  pub waiting : AreWaiting m.mesh.topology
  pub sizes : MakesSizes (with_member m p x)

-- the geom is automatic, doesn't wither, and is the assembly of a name and an empty configuration
abbrev pub is_of_assembly : List ℕ → Config → Geom Config → Bool
is_of_assembly name empty g =
    g.automatic && (not g.withering && (same_name g.name name && is_same_assembly g.config empty))

-- whether the consumer has no provider, or one with sectors of so many bytes
abbrev pub fits_sector : Topology Config → ℕ → ℕ → Bool
fits_sector t sector cons =
    option_map_or (λ x. x.sector == sector) (option_and_then (provider_at t) (provider_of_consumer t cons)) true

-- whether a provider with such sectors can take a place
abbrev pub can_take : Topology Config → ℕ → Config → ℕ → Bool
can_take t sector config place =
    is_none (option_flatten (slice_get (places_of config) place))
    && list_all (fits_sector t sector) (components config)
