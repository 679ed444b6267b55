-- A concat that grows by a component behind the others.
use Rattle.std.specs.Prelude.{◌≡◌, ℕ, ◌+◌, ◌<◌, List, [], ◌∷◌, ◌++◌, length, sum, Some}
use Rattle.geo_model.specs.Acceptance.{add_place}
use Rattle.geo_model.specs.Place.{concat_spot, place}
use Rattle.geo_model.specs.World.{Config, Concat}
use Rattle.geo_class.specs.concat.ConcatMap.{ConcatView}

-- each old offset keeps its place
abbrev pub SpotsStay : Type 0
SpotsStay = (sizes : List ℕ) (size o : ℕ) → o < sum sizes → concat_spot 0 (sizes ++ size ∷ []) o ≡ concat_spot 0 sizes o

-- each new offset lies in the new component
abbrev pub NewSpots : Type 0
NewSpots =
    (sizes : List ℕ) (size j : ℕ) → j < size
    → concat_spot 0 (sizes ++ size ∷ []) (sum sizes + j) ≡ Some (record { component = length sizes; offset = j })

-- the sizes of the components of a concat
abbrev pub sizes_of : Config → List ℕ
sizes_of (Concat id places sizes) = sizes
sizes_of _ = []

-- by configurations, each old offset of a provider of a geom that gets a place more keeps its place
abbrev pub PlacesStay : Type 0
PlacesStay =
    (config : Config) (name : List ℕ) (consumer size o : ℕ) → o < sum (sizes_of config)
    → place (add_place config consumer size) name o ≡ place config name o

-- each offset of a map keeps its place in the other
abbrev pub KeepsPlaces : ConcatView → ConcatView → Type 0
KeepsPlaces old new = (o : ℕ) → o < sum old.sizes → concat_spot 0 new.sizes o ≡ concat_spot 0 old.sizes o
