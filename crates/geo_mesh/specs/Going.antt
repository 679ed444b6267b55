-- Which geoms a wash can go on with: those that wither and of which something can go (g_wither_geom(9)).
use Rattle.std.specs.Prelude.{◌≡◌, ◌≢◌, ℕ, ◌==◌, Bool, true, not, ◌&&◌, ◌||◌, List, length, map}
use Rattle.std.specs.List.{list_any}
use Rattle.std.specs.Option.{option_map_or}
use Rattle.geo_model.specs.Words.{names_number}
use Rattle.geo_model.specs.Topology.{Geom, providers_of, consumers_of, attached_to}
use Rattle.geo_model.specs.Demand.{is_zero}
use Rattle.geo_slots.specs.Slots.{value_at}
use Rattle.geo_mesh.specs.declared.records.GeomCell.{GeomCell}
use Rattle.geo_mesh.specs.declared.records.ProvCell.{ProvCell}
use Rattle.geo_mesh.specs.declared.records.ConsCell.{ConsCell}
use Rattle.geo_mesh.specs.declared.tables.Tables.{Tables}
use Rattle.geo_mesh.specs.Topo.{TopoView}

module _ {C : Type 0} where
  -- whether nothing is attached to the provider
  abbrev pub is_unattached : TopoView C → ℕ → Bool
  is_unattached t p = length (attached_to t.topology p) == 0

  -- whether the consumer holds no count, and no request is out through it
  abbrev pub is_unused : TopoView C → ℕ → Bool
  is_unused t c =
      option_map_or is_zero (value_at t.wants c) true && option_map_or (λ n. n == 0) (value_at t.active c) true

  -- whether the geom has neither provider nor consumer
  abbrev pub is_bare : TopoView C → ℕ → Bool
  is_bare t g = (length (providers_of t.topology g) == 0) && (length (consumers_of t.topology g) == 0)

  -- whether something of the geom, or the geom itself, is free to go
  abbrev pub is_free : TopoView C → ℕ → Bool
  is_free t g =
      list_any (λ p. is_unattached t p.number) (providers_of t.topology g)
      || (list_any (λ c. is_unused t c.number) (consumers_of t.topology g) || is_bare t g)

  -- whether the geom withers, and something of it can go
  abbrev pub can_go : TopoView C → Geom C → Bool
  can_go t g = g.withering && is_free t g.number

-- whether the row's consumer is attached to the provider
abbrev pub is_on : ℕ → ℕ × ConsCell → Bool
is_on p row = names_number row.1.consumer.prov p

-- whether a consumer is attached to the provider, by the rows
abbrev pub has_consumer : List (ℕ × ConsCell) → ℕ → Bool
has_consumer cs p = list_any (is_on p) cs

-- whether the consumer of the cell holds no count, and no request is out through it
abbrev pub is_idle_cell : ConsCell → Bool
is_idle_cell x = is_zero x.consumer.want && (x.consumer.active == 0)

-- whether the row's provider is of the geom
abbrev pub is_provider_of : ℕ → ℕ × ProvCell → Bool
is_provider_of g row = row.1.provider.geom == g

-- whether the row's consumer is of the geom
abbrev pub is_consumer_of : ℕ → ℕ × ConsCell → Bool
is_consumer_of g row = row.1.consumer.geom == g

-- whether the row's provider is of the geom, and nothing is attached to it
abbrev pub is_lone : List (ℕ × ConsCell) → ℕ → ℕ × ProvCell → Bool
is_lone cs g row = (row.1.provider.geom == g) && not (has_consumer cs row.0)

-- whether the row's consumer is of the geom, and idle
abbrev pub is_idle_at : ℕ → ℕ × ConsCell → Bool
is_idle_at g row = (row.1.consumer.geom == g) && is_idle_cell row.1

-- whether something of the geom, or the geom itself, is free to go, by the rows of providers and consumers
unfoldable pub is_free_by : List (ℕ × ProvCell) → List (ℕ × ConsCell) → ℕ → Bool
is_free_by ps cs g =
    list_any (is_lone cs g) ps
    || (list_any (is_idle_at g) cs
    || (not (list_any (is_provider_of g) ps)
    && not (list_any (is_consumer_of g) cs)))

module _ {C : Type 0} where
  -- each geom's number, with whether it withers and this says that it is free
  abbrev pub going_rows : (ℕ → Bool) → List (ℕ × GeomCell C) → List (ℕ × Bool)
  going_rows free gs = map (λ row. (row.0, row.1.geom.withering && free row.0)) gs

  -- whether something of the geom is free to go, by the tables
  abbrev pub is_free_in : Tables C → ℕ → Bool
  is_free_in t = is_free_by t.edges.providers.rows t.edges.consumers.rows

  -- the geoms that carry the mark are those that wither and of which something can go
  abbrev pub AreGoing : Tables C → Type 0
  AreGoing t = t.notes.going.rows ≡ going_rows (is_free_in t) t.geoms.rows

  -- so it is but for one geom, if that withers
  pub record AreGoingBut (geom : ℕ) (t : Tables C) : Type 0 where
    pub free : ℕ → Bool
    pub others : (g : ℕ) → g ≢ geom → free g ≡ is_free_in t g
    pub rows : t.notes.going.rows ≡ going_rows free t.geoms.rows
