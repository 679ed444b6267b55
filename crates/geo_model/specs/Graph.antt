-- What every graph keeps that is changed one thing at a time: the order of its numbers, and that what its parts name
-- lives.
use Rattle.std.specs.Prelude.{ℕ, ◌<◌, List, map, IsSome, IfSome, All}
use Rattle.std.specs.List.Sorted.{IsStrictlyIncreasing}
use Rattle.geo_model.specs.Topology.{Topology, geom_at, provider_at}

-- the numbers rise, and are below the next one
abbrev pub AreNumbers : List ℕ → ℕ → Type 0
AreNumbers numbers next = IsStrictlyIncreasing numbers × All (λ n. n < next) numbers

-- geoms, providers and consumers stand in the order of their numbers, all of them given out
pub record IsInOrder {C : Type 0} (t : Topology C) : Type 0 where
  pub geoms : AreNumbers (map (λ x. x.number) t.geoms) t.next_geom
  pub providers : AreNumbers (map (λ x. x.number) t.providers) t.next_provider
  pub consumers : AreNumbers (map (λ x. x.number) t.consumers) t.next_consumer

-- each provider's geom lives
abbrev pub OfferersLive : {C : Type 0} → Topology C → Type 0
OfferersLive t = All (λ p. IsSome (geom_at t p.geom)) t.providers

-- each consumer's geom lives
abbrev pub GeomsLive : {C : Type 0} → Topology C → Type 0
GeomsLive t = All (λ c. IsSome (geom_at t c.geom)) t.consumers

-- each attached consumer's provider lives
abbrev pub ProvidersLive : {C : Type 0} → Topology C → Type 0
ProvidersLive t = All (λ c. IfSome c.provider (λ p. IsSome (provider_at t p))) t.consumers

-- what a part of the graph names, lives
pub record PartsLive {C : Type 0} (t : Topology C) : Type 0 where
  pub offerers : OfferersLive t
  pub geoms : GeomsLive t
  pub providers : ProvidersLive t
