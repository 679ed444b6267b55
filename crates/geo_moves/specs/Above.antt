-- The providers that are reached upwards from one.
use Rattle.std.specs.Prelude.{ℕ, ◌==◌, Bool, List, [], ◌∷◌, ◌++◌, map, flat_map, if◌then◌else◌}
use Rattle.std.specs.List.{list_any}
use Rattle.geo_model.specs.Topology.{Topology, providers_of}
use Rattle.geo_model.specs.World.{Config}
use Rattle.geo_life.specs.Life.{consumers_above}

-- whether the number is among them
abbrev pub has_number : List ℕ → ℕ → Bool
has_number ns n = list_any (λ m. m == n) ns

-- with the number behind them, unless it is among them
abbrev pub with_number : List ℕ → ℕ → List ℕ
with_number ns n = if has_number ns n then ns else ns ++ n ∷ []

-- the numbers of a geom's providers
abbrev pub offers_of : Topology Config → ℕ → List ℕ
offers_of t geom = map (λ y. y.number) (providers_of t geom)

-- the providers of the geoms that have a consumer at a provider
abbrev pub users_of : Topology Config → ℕ → List ℕ
users_of t p = flat_map (λ c. offers_of t c.geom) (consumers_above t p)
