-- What the words of commands name.
use Rattle.std.specs.Prelude.{◌≡◌, ℕ, ◌+◌, ◌<◌, ◌≤◌, ◌^◌, ◌==◌, Bool, not, ◌&&◌, List, ◌∷◌, length, filter, Some}
use Rattle.geo_base.specs.declared.kind.Kind.{Kind}
use Rattle.geo_model.specs.Words.{is_kind, same_name}
use Rattle.geo_model.specs.Topology.{Topology, Geom, geom_at, providers_of}
use Rattle.geo_model.specs.World.{Config}
use Rattle.geo_model.specs.Append.{Growing as GrowingConcat}
use Rattle.geo_laws_graph.specs.LookupLaws.{left_from}
use Rattle.geo_moves.specs.declared.names.Growing.{Growing}

-- the geoms of the class and of the name, withering or not
abbrev pub named_geoms : Topology Config → Kind → List ℕ → List (Geom Config)
named_geoms t kind name = filter (λ g. is_kind g.kind kind && same_name g.name name) t.geoms

-- those from a number on
abbrev pub named_from : Topology Config → Kind → List ℕ → ℕ → List (Geom Config)
named_from t kind name from_number = left_from (λ g. g.number) from_number (named_geoms t kind name)

-- the geom of number n is the first of them
pub record IsNextNamed (t : Topology Config) (kind : Kind) (name : List ℕ) (from_number n : ℕ) : Type 0 where
  pub geom : Geom Config
  pub number : geom.number ≡ n
  pub found : geom_at t n ≡ Some geom
  pub left : named_from t kind name from_number ≡ geom ∷ named_from t kind name (n + 1)
  pub past : from_number ≤ n
  pub known : n < t.next_geom
  pub fits : t.next_geom < 2 ^ 64

-- whether a geom can be destroyed by its name: it doesn't wither
abbrev pub stands : Geom Config → Bool
stands g = not g.withering

-- whether a geom can grow: it doesn't wither, and has a provider
abbrev pub can_grow : Topology Config → Geom Config → Bool
can_grow t g = not g.withering && not (length (providers_of t g.number) == 0)

-- a concat that may grow, by the numbers of its geom and of its provider
abbrev pub growing_seen : GrowingConcat → Growing
growing_seen x = record { geom = x.geom.number; prov = x.provider.number }
