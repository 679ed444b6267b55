-- The mesh as it is printed, by its graph and by what is granted in it.
use Rattle.std.specs.Prelude.{◌≡◌, ℕ, ◌+◌, ◌<◌, ◌≤◌, ◌^◌, Bool, not, List, [], ◌∷◌, map, filter, option_and_then, Some}
use Rattle.std.specs.Option.{option_map_or}
use Rattle.geo_base.specs.declared.request.Counts.{Counts}
use Rattle.geo_model.specs.declared.listing.ConsLine.{ConsLine}
use Rattle.geo_model.specs.declared.listing.GeomLine.{GeomLine}
use Rattle.geo_model.specs.declared.listing.ProvLine.{ProvLine}
use Rattle.geo_model.specs.Words.{is_granted_kind}
use Rattle.geo_model.specs.Topology.{Topology, Geom, Provider, Consumer, geom_at, provider_at, providers_of, consumers_of}
use Rattle.geo_model.specs.Rank.{rank}
use Rattle.geo_model.specs.Demand.{have, want}
use Rattle.geo_model.specs.World.{Config}
use Rattle.geo_laws_graph.specs.LookupLaws.{left_from}
use Rattle.geo_mesh.specs.declared.records.ProvRec.{ProvRec}

-- whether a geom is printed: it is none of DEV or TASTE
abbrev pub is_listed : Geom Config → Bool
is_listed g = not (is_granted_kind g.kind)

-- a provider, with the counts that are stored
abbrev pub stored_line : ProvRec → ProvLine
stored_line x = record { name = x.name; size = x.size; sector = x.sector; counts = x.have; errored = x.errored }

-- as the model's `listing`, which reads of the world only the graph and what is granted
module _ (granted : ℕ → Counts) (t : Topology Config) where
  -- a provider, with its counts
  abbrev pub prov_line : Provider → ProvLine
  prov_line p = record {
    name = p.name;
    size = p.size;
    sector = p.sector;
    counts = have granted t p.number;
    errored = p.errored;
  }

  -- a consumer, with the name of its provider and its counts
  abbrev pub cons_line : Consumer → ConsLine
  cons_line c = record {
    prov = option_map_or (λ p. p.name) (option_and_then (provider_at t) c.provider) [];
    counts = want granted t c;
  }

  -- the providers of a geom, and its consumers
  abbrev pub prov_lines : ℕ → List ProvLine
  prov_lines g = map prov_line (providers_of t g)

  abbrev pub cons_lines : ℕ → List ConsLine
  cons_lines g = map cons_line (consumers_of t g)

  -- a geom, with its rank, its providers and its consumers
  abbrev pub geom_line : Geom Config → GeomLine
  geom_line g = record {
    kind = g.kind;
    name = g.name;
    rank = rank t g.number;
    withering = g.withering;
    providers = prov_lines g.number;
    consumers = cons_lines g.number;
  }

  -- all geoms that are printed
  abbrev pub mesh_lines : List GeomLine
  mesh_lines = map geom_line (filter is_listed t.geoms)

-- the geoms from a number on
abbrev pub geoms_from : Topology Config → ℕ → List (Geom Config)
geoms_from t from_number = left_from (λ g. g.number) from_number t.geoms

-- a walk over the geoms comes to this one next
pub record IsNextGeom (t : Topology Config) (from_number n : ℕ) : Type 0 where
  pub geom : Geom Config
  pub found : geom_at t n ≡ Some geom
  pub left : geoms_from t from_number ≡ geom ∷ geoms_from t (n + 1)
  pub past : from_number ≤ n
  pub known : n < t.next_geom
  pub fits : t.next_geom < 2 ^ 64
