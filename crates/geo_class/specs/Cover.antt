-- Which providers the maps of their geoms cover.
use Rattle.std.specs.Prelude.{◌≡◌, ℕ, ◌<◌, ◌≤◌, false, List, is_none, IsSomeAnd, ⊤}
use Rattle.std.specs.List.{list_any}
use Rattle.geo_model.specs.TheConstants.{MAX_MEDIA_BYTES}
use Rattle.geo_model.specs.Acceptance.{joined_size, places_of}
use Rattle.geo_model.specs.Place.{place}
use Rattle.geo_model.specs.World.{Config, Stripe}
use Rattle.geo_class.specs.Split.{Covers}

-- each offset below a size has a place, at an offset before MAX_MEDIA_BYTES there
abbrev pub LiesBefore : Config → List ℕ → ℕ → Type 0
LiesBefore config name size =
    (o : ℕ) → o < size → IsSomeAnd (place config name o) (λ spot. spot.offset < MAX_MEDIA_BYTES)

-- a stripe is as long as its provider; its places don't tell this, since they have no end
abbrev pub IsAsLong : Config → ℕ → Type 0
IsAsLong (Stripe id stripe places sizes) size = size ≤ joined_size (Stripe id stripe places sizes)
IsAsLong _ size = ⊤

-- whoever lies so, of a geom that has no free place, is covered
abbrev pub WhatLiesIsCovered : Type 0
WhatLiesIsCovered =
    (config : Config) (name : List ℕ) (size : ℕ) → 1 ≤ size → LiesBefore config name size
    → list_any is_none (places_of config) ≡ false → IsAsLong config size → Covers config name size
