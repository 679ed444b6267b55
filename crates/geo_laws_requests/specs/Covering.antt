-- When leaves cover a bio, and when two graphs map a provider alike (g_bio(9)).
use Rattle.std.specs.Prelude.{List, IsSomeAnd, All}
use Rattle.geo_model.specs.Topology.{provider_at}
use Rattle.geo_model.specs.World.{World, Bio}
use Rattle.geo_model.specs.Results.{Leaf}
use Rattle.geo_laws_maps.specs.Covers.{CoversBy}
use Rattle.geo_laws_steps.specs.WayLaws.{SameMap}

-- leaves went exactly over the range of a bio, at its provider
abbrev pub CoversThere : World → Bio → List Leaf → Type 0
CoversThere w x found = IsSomeAnd (provider_at w.topology x.target) (λ p. CoversBy w x p found)

-- the provider of each bio that stands keeps its map
abbrev pub SameMaps : World → World → Type 0
SameMaps w v = All (λ x. SameMap w.topology v.topology x.target) w.bios
