-- Geoms, providers and consumers (geom(4)), for any configuration of a class.
use Rattle.std.specs.Prelude.{ℕ, ◌+◌, ◌==◌, Bool, true, false, not, ◌&&◌, List, [], ◌∷◌, ◌++◌, Option, Some, None, map, filter, find, filter_map}
use Rattle.std.specs.List.{list_any, last_or}
use Rattle.std.specs.Option.{option_or, option_map, option_and_then}
use Rattle.geo_base.specs.declared.kind.Kind.{Kind}
use Rattle.geo_model.specs.Words.{same_name, names_number, change_where, ◌>>=◌}

-- an instance of a class; started counts the requests that a NOP geom has started
pub record Geom (C : Type 0) : Type 0 where
  pub number : ℕ
  pub kind : Kind
  pub name : List ℕ
  pub config : C
  pub automatic : Bool
  pub withering : Bool
  pub started : ℕ

-- the gate at which a geom offers service; size is the media size in bytes
pub record Provider : Type 0 where
  pub number : ℕ
  pub geom : ℕ
  pub name : List ℕ
  pub size : ℕ
  pub sector : ℕ
  pub errored : Bool

-- the back door through which a geom attaches to one provider
pub record Consumer : Type 0 where
  pub number : ℕ
  pub geom : ℕ
  pub provider : Option ℕ
  pub spoiled : Bool

-- the graph; each list stands in the order of the numbers, and no number comes twice
pub record Topology (C : Type 0) : Type 0 where
  pub geoms : List (Geom C)
  pub providers : List Provider
  pub consumers : List Consumer
  pub next_geom : ℕ
  pub next_provider : ℕ
  pub next_consumer : ℕ

-- the same graph with the configurations seen otherwise
abbrev pub with_configs : {C D : Type 0} → (C → D) → Topology C → Topology D
with_configs seen t = record {
  geoms = map (λ x. record {
    number = x.number;
    kind = x.kind;
    name = x.name;
    config = seen x.config;
    automatic = x.automatic;
    withering = x.withering;
    started = x.started;
  }) t.geoms;
  providers = t.providers;
  consumers = t.consumers;
  next_geom = t.next_geom;
  next_provider = t.next_provider;
  next_consumer = t.next_consumer;
}

-- Look-ups

abbrev pub geom_at : {C : Type 0} → Topology C → ℕ → Option (Geom C)
geom_at t g = find (λ x. x.number == g) t.geoms

abbrev pub provider_at : {C : Type 0} → Topology C → ℕ → Option Provider
provider_at t p = find (λ x. x.number == p) t.providers

abbrev pub consumer_at : {C : Type 0} → Topology C → ℕ → Option Consumer
consumer_at t c = find (λ x. x.number == c) t.consumers

-- a provider, and the geom that offers it
abbrev pub provider_with_geom : {C : Type 0} → Topology C → ℕ → Option (Provider × Geom C)
provider_with_geom t p = do
  x ← provider_at t p
  g ← geom_at t x.geom
  Some (x, g)

-- the geom that offers the provider
abbrev pub geom_of_provider : {C : Type 0} → Topology C → ℕ → Option (Geom C)
geom_of_provider t p = option_and_then (λ x. geom_at t x.geom) (provider_at t p)

-- the geom of the consumer
abbrev pub geom_of_consumer : {C : Type 0} → Topology C → ℕ → Option (Geom C)
geom_of_consumer t c = option_and_then (λ x. geom_at t x.geom) (consumer_at t c)

-- the number of the provider to which the consumer is attached
abbrev pub provider_of_consumer : {C : Type 0} → Topology C → ℕ → Option ℕ
provider_of_consumer t c = option_and_then (λ x. x.provider) (consumer_at t c)

-- the providers of a geom, in order of numbers
abbrev pub providers_of : {C : Type 0} → Topology C → ℕ → List Provider
providers_of t g = filter (λ x. x.geom == g) t.providers

-- the consumers of a geom, in order of numbers
abbrev pub consumers_of : {C : Type 0} → Topology C → ℕ → List Consumer
consumers_of t g = filter (λ x. x.geom == g) t.consumers

-- the consumers attached to a provider, in order of numbers (g_attach(9))
abbrev pub attached_to : {C : Type 0} → Topology C → ℕ → List Consumer
attached_to t p = filter (λ x. names_number x.provider p) t.consumers

-- the numbers of the providers to which the consumers of a geom are attached
abbrev pub providers_under : {C : Type 0} → Topology C → ℕ → List ℕ
providers_under t g = filter_map (λ x. x.provider) (consumers_of t g)

-- whether a provider without an error has the name
abbrev pub is_name_taken : {C : Type 0} → Topology C → List ℕ → Bool
is_name_taken t name = list_any (λ x. not x.errored && same_name x.name name) t.providers

-- the provider of the name without an error, else the one of the name with the greatest number
abbrev pub find_provider : {C : Type 0} → Topology C → List ℕ → Option ℕ
find_provider t name =
    option_map (λ x. x.number)
    (option_or
    (find (λ x. not x.errored && same_name x.name name) t.providers)
    (last_or None (filter (λ x. same_name x.name name) t.providers)))

-- whether the provider is there and carries an error
abbrev pub is_errored : {C : Type 0} → Topology C → ℕ → Bool
is_errored t p = list_any (λ x. (x.number == p) && x.errored) t.providers

-- whether the geom is there and withers
abbrev pub is_withering : {C : Type 0} → Topology C → ℕ → Bool
is_withering t g = list_any (λ x. (x.number == g) && x.withering) t.geoms

-- Changes of one thing

-- with a new geom, of the next number (g_new_geomf)
abbrev pub add_geom : {C : Type 0} → Topology C → Kind → List ℕ → C → Bool → Topology C
add_geom t kind name config automatic = record t {
  geoms = t.geoms ++ record {
    number = t.next_geom;
    kind = kind;
    name = name;
    config = config;
    automatic =
        automatic;
    withering = false;
    started = 0;
  } ∷ [];
  next_geom = t.next_geom + 1;
}

-- with a new provider, of the next number (g_new_providerf)
abbrev pub add_provider : {C : Type 0} → Topology C → ℕ → List ℕ → ℕ → ℕ → Topology C
add_provider t geom name size sector = record t {
  providers = t.providers ++ record {
    number = t.next_provider;
    geom = geom;
    name = name;
    size = size;
    sector =
        sector;
    errored = false;
  } ∷ [];
  next_provider = t.next_provider + 1;
}

-- with a new consumer, of the next number, attached to the provider where there is one (g_new_consumer, g_attach(9))
abbrev pub add_consumer : {C : Type 0} → Topology C → ℕ → Option ℕ → Topology C
add_consumer t geom provider = record t {
  consumers = t.consumers ++ record {
    number = t.next_consumer;
    geom = geom;
    provider = provider;
    spoiled =
        false;
  } ∷ [];
  next_consumer = t.next_consumer + 1;
}

-- without the geom
abbrev pub remove_geom : {C : Type 0} → Topology C → ℕ → Topology C
remove_geom t g = record t { geoms = filter (λ x. not (x.number == g)) t.geoms }

-- without the provider
abbrev pub remove_provider : {C : Type 0} → Topology C → ℕ → Topology C
remove_provider t p = record t { providers = filter (λ x. not (x.number == p)) t.providers }

-- without the consumer
abbrev pub remove_consumer : {C : Type 0} → Topology C → ℕ → Topology C
remove_consumer t c = record t { consumers = filter (λ x. not (x.number == c)) t.consumers }

-- with the consumer attached to the provider (g_attach(9))
abbrev pub attach : {C : Type 0} → Topology C → ℕ → ℕ → Topology C
attach t c p =
    record t { consumers = change_where (λ x. x.number == c) (λ x. record x { provider = Some p }) t.consumers }

-- with the consumer attached to nothing (g_detach(9))
abbrev pub detach : {C : Type 0} → Topology C → ℕ → Topology C
detach t c = record t { consumers = change_where (λ x. x.number == c) (λ x. record x { provider = None }) t.consumers }

-- with an error at the provider
abbrev pub set_error : {C : Type 0} → Topology C → ℕ → Topology C
set_error t p =
    record t { providers = change_where (λ x. x.number == p) (λ x. record x { errored = true }) t.providers }

-- with another media size of the provider
abbrev pub set_size : {C : Type 0} → Topology C → ℕ → ℕ → Topology C
set_size t p size =
    record t { providers = change_where (λ x. x.number == p) (λ x. record x { size = size }) t.providers }

-- with the geom withering (g_wither_geom(9))
abbrev pub set_withering : {C : Type 0} → Topology C → ℕ → Topology C
set_withering t g = record t { geoms = change_where (λ x. x.number == g) (λ x. record x { withering = true }) t.geoms }

-- with the mark set, or taken away, at each consumer that passes the test
abbrev pub set_marks : {C : Type 0} → Topology C → (Consumer → Bool) → Bool → Topology C
set_marks t test mark = record t { consumers = change_where test (λ x. record x { spoiled = mark }) t.consumers }

-- with another configuration of the geom
abbrev pub set_config : {C : Type 0} → Topology C → ℕ → C → Topology C
set_config t g config =
    record t { geoms = change_where (λ x. x.number == g) (λ x. record x { config = config }) t.geoms }

-- with one more started request at the geom
abbrev pub note_started : {C : Type 0} → Topology C → ℕ → Topology C
note_started t g =
    record t { geoms = change_where (λ x. x.number == g) (λ x. record x { started = x.started + 1 }) t.geoms }
