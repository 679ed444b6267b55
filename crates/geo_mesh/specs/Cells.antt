-- The mesh that the rows of geoms, providers and consumers stand for.
use Rattle.std.specs.Prelude.{◌≡◌, ℕ, ◌-◌, ◌≤◌, min, Bool, false, List, None, map}
use Rattle.geo_model.specs.Kind.{Kind}
use Rattle.geo_model.specs.Counts.{Counts}
use Rattle.geo_model.specs.Topology.{Topology, Geom, Provider, Consumer}
use Rattle.geo_slots.specs.Slots.{SlotsView, with_value}
use Rattle.geo_mesh.specs.declared.records.Scratch.{Scratch}
use Rattle.geo_mesh.specs.declared.records.GeomRec.{GeomRec}
use Rattle.geo_mesh.specs.declared.records.ProvRec.{ProvRec}
use Rattle.geo_mesh.specs.declared.records.ConsRec.{ConsRec}
use Rattle.geo_mesh.specs.declared.records.GeomCell.{GeomCell}
use Rattle.geo_mesh.specs.declared.records.ProvCell.{ProvCell}
use Rattle.geo_mesh.specs.declared.records.ConsCell.{ConsCell}
use Rattle.geo_mesh.specs.declared.tables.Edges.{Edges}
use Rattle.geo_mesh.specs.declared.tables.Tables.{Tables}
use Rattle.geo_mesh.specs.Rows.{rows_with}
use Rattle.geo_mesh.specs.Topo.{TopoView, no_counts, no_scratch}

-- the geom that stands under a number
abbrev pub geom_seen : {C : Type 0} → ℕ → GeomRec C → Geom C
geom_seen n x = record {
  number = n;
  kind = x.kind;
  name = x.name;
  config = x.config;
  automatic = x.automatic;
  withering = x.withering;
  started = x.started;
}

-- the provider that stands under a number
abbrev pub provider_seen : ℕ → ProvRec → Provider
provider_seen n x = record {
  number = n;
  geom = x.geom;
  name = x.name;
  size = x.size;
  sector = x.sector;
  errored = x.errored;
}

-- the consumer that stands under a number
abbrev pub consumer_seen : ℕ → ConsRec → Consumer
consumer_seen n x = record { number = n; geom = x.geom; provider = x.prov; spoiled = x.spoiled }

-- the geom of a row
abbrev pub geom_row : {C : Type 0} → ℕ × GeomCell C → Geom C
geom_row row = geom_seen row.0 row.1.geom

-- the provider of a row
abbrev pub provider_row : ℕ × ProvCell → Provider
provider_row row = provider_seen row.0 row.1.provider

-- the consumer of a row
abbrev pub consumer_row : ℕ × ConsCell → Consumer
consumer_row row = consumer_seen row.0 row.1.consumer

-- parts of cells
abbrev pub have_of : ProvCell → Counts
have_of x = x.provider.have

-- whether the provider's write count left zero
abbrev pub risen_of : ProvCell → Bool
risen_of x = x.provider.risen

-- whether the provider's write count reached zero
abbrev pub fallen_of : ProvCell → Bool
fallen_of x = x.provider.fallen

-- the consumer's counts
abbrev pub want_of : ConsCell → Counts
want_of x = x.consumer.want

-- how many requests are out through the consumer
abbrev pub active_of : ConsCell → ℕ
active_of x = x.consumer.active

-- the geom's scratch
abbrev pub geom_scratch_of : {C : Type 0} → GeomCell C → Scratch
geom_scratch_of x = x.scratch

-- the provider's scratch
abbrev pub provider_scratch_of : ProvCell → Scratch
provider_scratch_of x = x.scratch

-- the consumer's scratch
abbrev pub consumer_scratch_of : ConsCell → Scratch
consumer_scratch_of x = x.scratch

-- a geom that was just made, with nothing below it
abbrev pub made_cell : {C : Type 0} → Kind → List ℕ → C → Bool → GeomCell C
made_cell kind name config automatic = record {
  geom = record { kind = kind; name = name; config = config; automatic = automatic; withering = false; started = 0 };
  rank = 1;
  scratch = no_scratch;
}

-- a provider that was just made, with no counts
abbrev pub made_provider : ℕ → List ℕ → ℕ → ℕ → ProvCell
made_provider geom name size sector = record {
  provider = record {
    geom = geom;
    name = name;
    size = size;
    sector = sector;
    errored = false;
    have = no_counts;
    risen = false;
    fallen = false;
  };
  scratch = no_scratch;
}

-- a consumer that was just made, attached to nothing
abbrev pub made_consumer : ℕ → ConsCell
made_consumer geom = record {
  consumer = record { geom = geom; prov = None; want = no_counts; active = 0; spoiled = false };
  scratch = no_scratch;
}

-- the graph of these geoms, with these providers and consumers
abbrev pub graph_of : {C : Type 0} → SlotsView (GeomCell C) → Edges → Topology C
graph_of geoms edges = record {
  geoms = map geom_row geoms.rows;
  providers = map provider_row edges.providers.rows;
  consumers = map consumer_row edges.consumers.rows;
  next_geom = geoms.next;
  next_provider = edges.providers.next;
  next_consumer = edges.consumers.next;
}

-- the graph of a mesh
abbrev pub graph : {C : Type 0} → Tables C → Topology C
graph t = graph_of t.geoms t.edges

-- the mesh; there is room for no more geoms than may be
abbrev pub topo_view : {C : Type 0} → Tables C → TopoView C
topo_view t = record {
  topology = graph t;
  haves = rows_with have_of t.edges.providers.rows;
  risen = rows_with risen_of t.edges.providers.rows;
  fallen = rows_with fallen_of t.edges.providers.rows;
  wants = rows_with want_of t.edges.consumers.rows;
  active = rows_with active_of t.edges.consumers.rows;
  scratches = record {
    geoms = rows_with geom_scratch_of t.geoms.rows;
    providers = rows_with provider_scratch_of t.edges.providers.rows;
    consumers = rows_with consumer_scratch_of t.edges.consumers.rows;
  };
  room = record {
    geoms = min t.geoms.spare (4294967294 - t.live);
    providers = t.edges.providers.spare;
    consumers = t.edges.consumers.spare;
  };
}

-- the tables with another cell under the number of a geom
abbrev pub with_geom_cell : {C : Type 0} → Tables C → ℕ → GeomCell C → Tables C
with_geom_cell t n w = record t { geoms = record t.geoms { rows = with_value t.geoms.rows n w } }

-- providers and consumers with another cell under the number of a provider
abbrev pub put_provider : Edges → ℕ → ProvCell → Edges
put_provider edges n w =
    record edges { providers = record edges.providers { rows = with_value edges.providers.rows n w } }

-- the same under the number of a consumer
abbrev pub put_consumer : Edges → ℕ → ConsCell → Edges
put_consumer edges n w =
    record edges { consumers = record edges.consumers { rows = with_value edges.consumers.rows n w } }

-- the tables with another cell under the number of a provider
abbrev pub with_provider_cell : {C : Type 0} → Tables C → ℕ → ProvCell → Tables C
with_provider_cell t n w = record t { edges = put_provider t.edges n w }

-- the tables with another cell under the number of a consumer
abbrev pub with_consumer_cell : {C : Type 0} → Tables C → ℕ → ConsCell → Tables C
with_consumer_cell t n w = record t { edges = put_consumer t.edges n w }

-- the number of the geoms is kept, and isn't too great
pub record IsCount (count live : ℕ) : Type 0 where
  pub counted : live ≡ count
  pub few : live ≤ 4294967294
