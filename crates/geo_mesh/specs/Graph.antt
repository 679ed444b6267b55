-- What holds of the graph of every mesh at every moment (geom(4), g_attach(9)).
use Rattle.std.specs.Prelude.{◌≡◌, ◌≢◌, ℕ, ◌≤◌, ◌<◌, ◌^◌, true, false, All, AllPairs, IsSomeAnd}
use Rattle.geo_model.specs.Kind.TheVariants as kinds
use Rattle.geo_model.specs.Topology.{Topology, Provider, geom_at}
use Rattle.geo_model.specs.Graph.{IsInOrder, PartsLive}
use Rattle.geo_model.specs.Rank.{Ranked, is_too_deep}
use Rattle.geo_model.specs.Sound.{DifferInName}
use Rattle.geo_mesh.specs.Topo.{is_provider_size}

-- a number that can be given out: 0 is none, and it fits in 64 bits
pub record IsNumber (n : ℕ) : Type 0 where
  pub some : 1 ≤ n
  pub fits : n < 2 ^ 64

-- the numbers that were given out are from 1 on, and the next ones can be given out
pub record NumbersFit {C : Type 0} (t : Topology C) : Type 0 where
  pub geoms : All (λ x. 1 ≤ x.number) t.geoms
  pub providers : All (λ x. 1 ≤ x.number) t.providers
  pub consumers : All (λ x. 1 ≤ x.number) t.consumers
  pub next_geom : IsNumber t.next_geom
  pub next_provider : IsNumber t.next_provider
  pub next_consumer : IsNumber t.next_consumer

-- geom 1 of class DEV and geom 2 of class TASTE stand
pub record FirstGeomsStand {C : Type 0} (t : Topology C) : Type 0 where
  pub dev : IsSomeAnd (geom_at t 1) (λ x. x.kind ≡ kinds.Dev)
  pub taste : IsSomeAnd (geom_at t 2) (λ x. x.kind ≡ kinds.Taste)

-- the provider is of a geom other than the first two, and has the sizes of a provider
pub record IsOffer (x : Provider) : Type 0 where
  pub not_dev : x.geom ≢ 1
  pub not_taste : x.geom ≢ 2
  pub sizes : is_provider_size x.size x.sector ≡ true

-- numbers are in order, what a part names lives, DEV and TASTE stand and have no provider, and sizes are those of
-- providers
pub record IsOrderly {C : Type 0} (t : Topology C) : Type 0 where
  pub order : IsInOrder t
  pub numbers : NumbersFit t
  pub parts : PartsLive t
  pub first : FirstGeomsStand t
  pub offers : All IsOffer t.providers

-- it is orderly, there is no loop, no geom other than DEV and TASTE is too deep, and providers without an error
-- differ in name
pub record IsSoundGraph {C : Type 0} (t : Topology C) : Type 0 where
  pub orderly : IsOrderly t
  pub ranked : Ranked t
  pub not_deep : is_too_deep t ≡ false
  pub names : AllPairs DifferInName t.providers
