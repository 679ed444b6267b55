-- The mesh as contracts see it: the graph of the model, and beside it what is kept for its geoms, providers and
-- consumers.
use Rattle.std.specs.Prelude.{◌≡◌, ℕ, ◌%◌, ◌==◌, ◌&&◌, ◌||◌, nat_le, Bool, false, List, [], ◌∷◌, ◌++◌, Option, None, find, option_map, codes}
use Rattle.geo_model.specs.Counts.{Counts}
use Rattle.geo_model.specs.Kind.{Kind}
use Rattle.geo_model.specs.Kind.TheVariants as kinds
use Rattle.geo_model.specs.TheConstants.{MAX_MEDIA_BYTES}
use Rattle.geo_model.specs.Topology.{Topology, Geom, Provider, Consumer, add_geom, add_provider, add_consumer, remove_geom, remove_provider, remove_consumer}
use Rattle.geo_mesh.specs.declared.records.Scratch.{Scratch}
use Rattle.geo_slots.specs.Slots.{with_value, without}
use Rattle.geo_mesh.specs.Rows.{change_at}

-- the scratch of each geom, provider and consumer, under its number
pub record Scratches : Type 0 where
  pub geoms : List (ℕ × Scratch)
  pub providers : List (ℕ × Scratch)
  pub consumers : List (ℕ × Scratch)

-- for how many more geoms, providers and consumers memory is kept
pub record Room : Type 0 where
  pub geoms : ℕ
  pub providers : ℕ
  pub consumers : ℕ

-- the graph; each provider's counts, and whether its write count left zero or reached zero; each consumer's counts, and
-- how many requests are out through it; the scratch; the room
pub record TopoView (C : Type 0) : Type 0 where
  pub topology : Topology C
  pub haves : List (ℕ × Counts)
  pub risen : List (ℕ × Bool)
  pub fallen : List (ℕ × Bool)
  pub wants : List (ℕ × Counts)
  pub active : List (ℕ × ℕ)
  pub scratches : Scratches
  pub room : Room

-- no counts
abbrev pub no_counts : Counts
no_counts = record { r = 0; w = 0; e = 0 }

-- the scratch that each has at first
abbrev pub no_scratch : Scratch
no_scratch = record { mark = 0; trial = no_counts }

-- the first number of the consumers, the geoms, the providers that isn't below a number
abbrev pub first_consumer : List Consumer → ℕ → Option ℕ
first_consumer xs from_number = option_map (λ x. x.number) (find (λ x. nat_le from_number x.number) xs)

-- the first number of the geoms that isn't below a number
abbrev pub first_geom : {C : Type 0} → List (Geom C) → ℕ → Option ℕ
first_geom xs from_number = option_map (λ x. x.number) (find (λ x. nat_le from_number x.number) xs)

-- whether a provider may have this media size and sector size, in bytes: a whole positive number of sectors of 512 or
-- 4,096, and at most MAX_MEDIA_BYTES
abbrev pub is_provider_size : ℕ → ℕ → Bool
is_provider_size size sector =
    ((sector == 512) || (sector == 4096)) && (nat_le 1 size && (nat_le size MAX_MEDIA_BYTES && (size % sector == 0)))

-- the first number of the providers that isn't below a number
abbrev pub first_provider : List Provider → ℕ → Option ℕ
first_provider xs from_number = option_map (λ x. x.number) (find (λ x. nat_le from_number x.number) xs)

module _ {C : Type 0} where
  -- the graph of no geom
  abbrev pub no_graph : Topology C
  no_graph = record { geoms = []; providers = []; consumers = []; next_geom = 1; next_provider = 1; next_consumer = 1 }

  -- the mesh of no geom
  abbrev pub no_mesh : Room → TopoView C
  no_mesh room = record {
    topology = no_graph;
    haves = [];
    risen = [];
    fallen = [];
    wants = [];
    active = [];
    scratches = record { geoms = []; providers = []; consumers = [] };
    room = room;
  }

  -- with a new geom (g_new_geomf)
  abbrev pub with_geom : TopoView C → Kind → List ℕ → C → Bool → TopoView C
  with_geom t kind name config automatic = record t {
    topology = add_geom t.topology kind name config automatic;
    scratches = record t.scratches { geoms = t.scratches.geoms ++ (t.topology.next_geom, no_scratch) ∷ [] };
  }

  -- with a new provider, which has no counts (g_new_providerf)
  abbrev pub with_provider : TopoView C → ℕ → List ℕ → ℕ → ℕ → TopoView C
  with_provider t geom name size sector = record t {
    topology = add_provider t.topology geom name size sector;
    haves = t.haves ++ (t.topology.next_provider, no_counts) ∷ [];
    risen = t.risen ++ (t.topology.next_provider, false) ∷ [];
    fallen = t.fallen ++ (t.topology.next_provider, false) ∷ [];
    scratches = record t.scratches { providers = t.scratches.providers ++ (t.topology.next_provider, no_scratch) ∷ [] };
  }

  -- with a new consumer, which is attached to nothing and has no counts (g_new_consumer)
  abbrev pub with_consumer : TopoView C → ℕ → TopoView C
  with_consumer t geom = record t {
    topology = add_consumer t.topology geom None;
    wants = t.wants ++ (t.topology.next_consumer, no_counts) ∷ [];
    active = t.active ++ (t.topology.next_consumer, 0) ∷ [];
    scratches = record t.scratches { consumers = t.scratches.consumers ++ (t.topology.next_consumer, no_scratch) ∷ [] };
  }

  -- without a geom, a provider, a consumer
  abbrev pub without_geom : TopoView C → ℕ → TopoView C
  without_geom t geom = record t {
    topology = remove_geom t.topology geom;
    scratches = record t.scratches { geoms = without t.scratches.geoms geom };
  }

  -- without a provider, its counts, its notes and its scratch
  abbrev pub without_provider : TopoView C → ℕ → TopoView C
  without_provider t prov = record t {
    topology = remove_provider t.topology prov;
    haves = without t.haves prov;
    risen = without t.risen prov;
    fallen = without t.fallen prov;
    scratches = record t.scratches { providers = without t.scratches.providers prov };
  }

  -- without a consumer, its counts and its scratch
  abbrev pub without_consumer : TopoView C → ℕ → TopoView C
  without_consumer t cons = record t {
    topology = remove_consumer t.topology cons;
    wants = without t.wants cons;
    active = without t.active cons;
    scratches = record t.scratches { consumers = without t.scratches.consumers cons };
  }

  -- with another graph alone
  abbrev pub with_topology : TopoView C → Topology C → TopoView C
  with_topology t topology = record t { topology = topology }

  -- the mesh is this one, but for the room that is kept
  abbrev pub IsButForRoom : TopoView C → TopoView C → Type 0
  IsButForRoom new t = new ≡ record t { room = new.room }

  -- with other counts of a consumer, of a provider (g_access(9))
  abbrev pub with_want : TopoView C → ℕ → Counts → TopoView C
  with_want t cons want = record t { wants = with_value t.wants cons want }

  -- with other counts of a provider
  abbrev pub with_have : TopoView C → ℕ → Counts → TopoView C
  with_have t prov have = record t { haves = with_value t.haves prov have }

  -- with other notes of a provider
  abbrev pub with_notes : TopoView C → ℕ → Bool → Bool → TopoView C
  with_notes t prov risen fallen =
      record t { risen = with_value t.risen prov risen; fallen = with_value t.fallen prov fallen }

  -- with another number of requests out through a consumer
  abbrev pub with_active : TopoView C → ℕ → (ℕ → ℕ) → TopoView C
  with_active t cons change = record t { active = change_at change t.active cons }

  -- with other scratch of a geom, a provider, a consumer
  abbrev pub with_geom_scratch : TopoView C → ℕ → Scratch → TopoView C
  with_geom_scratch t geom scratch =
      record t { scratches = record t.scratches { geoms = with_value t.scratches.geoms geom scratch } }

  -- with other scratch of a provider
  abbrev pub with_provider_scratch : TopoView C → ℕ → Scratch → TopoView C
  with_provider_scratch t prov scratch =
      record t { scratches = record t.scratches { providers = with_value t.scratches.providers prov scratch } }

  -- with other scratch of a consumer
  abbrev pub with_consumer_scratch : TopoView C → ℕ → Scratch → TopoView C
  with_consumer_scratch t cons scratch =
      record t { scratches = record t.scratches { consumers = with_value t.scratches.consumers cons scratch } }

  -- the mesh that stands at first: geom 1 of class DEV, and geom 2 of class TASTE
  abbrev pub first_mesh : C → C → Room → TopoView C
  first_mesh dev taste room =
      with_geom (with_geom (no_mesh room) kinds.Dev (codes "dev") dev false) kinds.Taste (codes "taste") taste false
