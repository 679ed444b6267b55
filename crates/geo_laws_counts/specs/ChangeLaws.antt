-- Changes of one thing that leave all of demand as it is: counts, wants, exclusiveness and the limit.
use Rattle.std.specs.Prelude.{◌≡◌, ◌≢◌, ℕ, Bool, false, List, [], Option, Some, None, All, Contains}
use Rattle.geo_model.specs.Kind.{Kind}
use Rattle.geo_model.specs.Counts.{Counts}
use Rattle.geo_model.specs.Topology.{Topology, Consumer, attached_to, add_geom, add_provider, add_consumer, remove_geom, remove_provider, set_error, set_size, set_withering, set_marks, set_config, note_started, with_configs}
use Rattle.geo_model.specs.Rank.{Ranked}
use Rattle.geo_model.specs.Demand.{want, no_counts}
use Rattle.geo_laws_counts.specs.CountWords.{NumbersLead, seen_by_counts, DemandStays, AnyConsumer, keep_consumers, move_consumer}

-- demand depends on what counts see, and on nothing else
abbrev pub SeenIsAll : Type 0 → Type 0 → Type 0
SeenIsAll C D =
    (granted : ℕ → Counts) (t : Topology C) (u : Topology D)
    → seen_by_counts t ≡ seen_by_counts u → DemandStays granted t granted u AnyConsumer

-- so not on errors
abbrev pub ErrorsAreNotSeen : Type 0 → Type 0
ErrorsAreNotSeen C = (granted : ℕ → Counts) (t : Topology C) (p : ℕ)
    → DemandStays granted t granted (set_error t p) AnyConsumer

-- nor on media sizes
abbrev pub SizesAreNotSeen : Type 0 → Type 0
SizesAreNotSeen C = (granted : ℕ → Counts) (t : Topology C) (p size : ℕ)
    → DemandStays granted t granted (set_size t p size) AnyConsumer

-- nor on withering
abbrev pub WitheringIsNotSeen : Type 0 → Type 0
WitheringIsNotSeen C = (granted : ℕ → Counts) (t : Topology C) (g : ℕ)
    → DemandStays granted t granted (set_withering t g) AnyConsumer

-- nor on marks
abbrev pub MarksAreNotSeen : Type 0 → Type 0
MarksAreNotSeen C =
    (granted : ℕ → Counts) (t : Topology C) (test : Consumer → Bool) (mark : Bool)
    → DemandStays granted t granted (set_marks t test mark) AnyConsumer

-- nor on configurations, of one geom or of all
abbrev pub ConfigsAreNotSeen : Type 0 → Type 0
ConfigsAreNotSeen C =
    (granted : ℕ → Counts) (t : Topology C) (g : ℕ) (config : C)
    → DemandStays granted t granted (set_config t g config) AnyConsumer

-- all configurations may be seen otherwise
abbrev pub OtherConfigsAreNotSeen : Type 0 → Type 0 → Type 0
OtherConfigsAreNotSeen C D =
    (granted : ℕ → Counts) (t : Topology C) (see : C → D)
    → DemandStays granted t granted (with_configs see t) AnyConsumer

-- nor on started requests
abbrev pub StartsAreNotSeen : Type 0 → Type 0
StartsAreNotSeen C = (granted : ℕ → Counts) (t : Topology C) (g : ℕ)
    → DemandStays granted t granted (note_started t g) AnyConsumer

-- nor on the next numbers
abbrev pub NextNumbersAreNotSeen : Type 0 → Type 0
NextNumbersAreNotSeen C =
    (granted : ℕ → Counts) (t : Topology C) (g p c : ℕ)
    → DemandStays granted t granted (record t { next_geom = g; next_provider = p; next_consumer = c }) AnyConsumer

-- only the grants of the consumers that stand matter
abbrev pub GrantsOfConsumers : Type 0 → Type 0
GrantsOfConsumers C =
    (granted other : ℕ → Counts) (t : Topology C)
    → All (λ c. other c.number ≡ granted c.number) t.consumers → DemandStays granted t other t (Contains t.consumers)

-- a new geom without parts
abbrev pub NewGeomsChangeNothing : Type 0 → Type 0
NewGeomsChangeNothing C =
    (granted : ℕ → Counts) (t : Topology C) (kind : Kind) (name : List ℕ) (config : C) (automatic : Bool)
    → Ranked t → NumbersLead t → All (λ c. c.geom ≢ t.next_geom) t.consumers
    → DemandStays granted t granted (add_geom t kind name config automatic) (Contains t.consumers)

-- a removed geom without parts
abbrev pub GoneGeomsChangeNothing : Type 0 → Type 0
GoneGeomsChangeNothing C =
    (granted : ℕ → Counts) (t : Topology C) (g : ℕ)
    → Ranked (remove_geom t g) → NumbersLead t → All (λ c. c.geom ≢ g) t.consumers
    → DemandStays granted t granted (remove_geom t g) (Contains t.consumers)

-- a new provider, to which nothing is attached
abbrev pub NewProvidersChangeNothing : Type 0 → Type 0
NewProvidersChangeNothing C =
    (granted : ℕ → Counts) (t : Topology C) (geom : ℕ) (name : List ℕ) (size sector : ℕ)
    → attached_to t t.next_provider ≡ []
    → DemandStays granted t granted (add_provider t geom name size sector) AnyConsumer

-- a removed provider, to which nothing is attached
abbrev pub GoneProvidersChangeNothing : Type 0 → Type 0
GoneProvidersChangeNothing C =
    (granted : ℕ → Counts) (t : Topology C) (p : ℕ)
    → attached_to t p ≡ [] → DemandStays granted t granted (remove_provider t p) AnyConsumer

-- a new consumer that isn't attached
abbrev pub NewConsumersChangeNothing : Type 0 → Type 0
NewConsumersChangeNothing C =
    (granted : ℕ → Counts) (t : Topology C) (geom : ℕ)
    → DemandStays granted t granted (add_consumer t geom None) AnyConsumer

-- a new consumer that is attached and wants nothing
abbrev pub QuietConsumersCome : Type 0 → Type 0
QuietConsumersCome C =
    (granted : ℕ → Counts) (t : Topology C) (geom p : ℕ)
    → want granted t (record { number = t.next_consumer; geom = geom; provider = Some p; spoiled = false }) ≡ no_counts
    → DemandStays granted t granted (add_consumer t geom (Some p)) AnyConsumer

-- a consumer that wants nothing is attached, elsewhere or nowhere; attach moves one to a provider
abbrev pub QuietConsumersMove : Type 0 → Type 0
QuietConsumersMove C =
    (granted : ℕ → Counts) (t : Topology C) (c : ℕ) (to : Option ℕ)
    → All (λ x. x.number ≡ c → want granted t x ≡ no_counts) t.consumers
    → DemandStays granted t granted (move_consumer t c to) AnyConsumer

-- consumers that want nothing go; remove_consumer keeps those of another number
abbrev pub QuietConsumersGo : Type 0 → Type 0
QuietConsumersGo C =
    (granted : ℕ → Counts) (t : Topology C) (keep : Consumer → Bool)
    → All (λ c. keep c ≡ false → want granted t c ≡ no_counts) t.consumers
    → DemandStays granted t granted (keep_consumers t keep) AnyConsumer
