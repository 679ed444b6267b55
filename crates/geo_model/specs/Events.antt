-- Events, spoiling, orphaning, withering (g_event(9), g_wither_geom(9)), for any configuration of a class.
use Rattle.std.specs.Prelude.{ℕ, ◌==◌, nat_le, Bool, true, not, ◌&&◌, ◌||◌, List, [], ◌∷◌, ◌++◌, map, filter, fold, if◌then◌else◌, false}
use Rattle.std.specs.Option.{option_map_or}
use Rattle.geo_base.specs.declared.request.Counts.{Counts}
use Rattle.geo_base.specs.declared.kind.Kind.{Kind}
use Rattle.geo_base.specs.declared.kind.Kind.TheVariants as kinds
use Rattle.geo_base.specs.declared.limits.TheConstants.{UNTASTED_RANK}
use Rattle.geo_model.specs.declared.step.Event.{Event}
use Rattle.geo_model.specs.declared.step.Event.TheVariants as events
use Rattle.geo_model.specs.Words.{is_kind, names_number}
use Rattle.geo_model.specs.Topology.{Topology, Consumer, geom_at, geom_of_provider, attached_to, providers_of, is_errored, is_withering, set_error, set_withering, set_marks, add_provider}
use Rattle.geo_model.specs.Rank.{rank}
use Rattle.geo_model.specs.Demand.{have, want, is_zero}

-- the graph and the event queue, whose head is done first
pub record QueuedTopology (C : Type 0) : Type 0 where
  pub topology : Topology C
  pub events : List Event

-- with an event at the end of the queue (g_post_event(9))
abbrev pub post : {C : Type 0} → QueuedTopology C → Event → QueuedTopology C
post q event = record q { events = q.events ++ event ∷ [] }

-- the provider that an event names
abbrev pub provider_of_event : Event → ℕ
provider_of_event (events.NewProvider p) = p
provider_of_event (events.Spoil p) = p
provider_of_event (events.Orphan p) = p
provider_of_event (events.Resize p) = p

-- the queue without the events that name a provider (g_cancel_event)
abbrev pub without_events_of : List Event → ℕ → List Event
without_events_of queue p = filter (λ e. not (provider_of_event e == p)) queue

-- with a new provider of a geom, which is offered for taste
abbrev pub offer : {C : Type 0} → QueuedTopology C → ℕ → List ℕ → ℕ → ℕ → QueuedTopology C
offer q geom name size sector =
    post
    (record q { topology = add_provider q.topology geom name size sector })
    (events.NewProvider q.topology.next_provider)

-- the provider gets an error, and its consumers are to hear of it (g_orphan_provider)
abbrev pub orphan_provider : {C : Type 0} → QueuedTopology C → ℕ → QueuedTopology C
orphan_provider q p = post (record q { topology = set_error q.topology p }) (events.Orphan p)

-- the geom withers, and each of its providers without an error is orphaned, in order of numbers (g_wither_geom(9))
abbrev pub wither : {C : Type 0} → QueuedTopology C → ℕ → QueuedTopology C
wither q g =
    fold orphan_provider
    (record q { topology = set_withering q.topology g })
    (map (λ x. x.number) (filter (λ x. not x.errored) (providers_of q.topology g)))

abbrev pub wither_unless_withering : {C : Type 0} → QueuedTopology C → ℕ → QueuedTopology C
wither_unless_withering q g = if is_withering q.topology g then q else wither q g

-- Changes of access counts; granted tells what each consumer of DEV and TASTE was granted

-- whether a consumer has to go once its provider is written: it isn't a writer, and is of an automatic geom or of TASTE
abbrev pub is_to_spoil : {C : Type 0} → (ℕ → Counts) → Topology C → ℕ → Consumer → Bool
is_to_spoil granted t p c =
    names_number c.provider p
    && (((want granted t c).w == 0)
    && option_map_or (λ g. g.automatic || is_kind g.kind kinds.Taste) (geom_at t c.geom) false)

-- the consumers of a provider that have to go are marked
abbrev pub mark_spoiled : {C : Type 0} → (ℕ → Counts) → Topology C → ℕ → Topology C
mark_spoiled granted t p = set_marks t (is_to_spoil granted t p) true

-- they are marked, and Spoil is posted
abbrev pub spoil_at : {C : Type 0} → (ℕ → Counts) → QueuedTopology C → ℕ → QueuedTopology C
spoil_at granted q p = post (record q { topology = mark_spoiled granted q.topology p }) (events.Spoil p)

-- the provider is offered for taste again, unless it carries an error or its geom withers
abbrev pub offer_again : {C : Type 0} → QueuedTopology C → ℕ → QueuedTopology C
offer_again q p =
    if is_errored q.topology p || option_map_or (λ g. g.withering) (geom_of_provider q.topology p) true
    then q
    else post q (events.NewProvider p)

-- what follows a rise of write counts: a spoil at each of the providers
abbrev pub announce_risen : {C : Type 0} → (ℕ → Counts) → List ℕ → QueuedTopology C → QueuedTopology C
announce_risen granted ps q = fold (spoil_at granted) q ps

-- what follows a fall of write counts: each of the providers is offered for taste again
abbrev pub announce_fallen : {C : Type 0} → List ℕ → QueuedTopology C → QueuedTopology C
announce_fallen ps q = fold offer_again q ps

-- What an event does

-- the classes that a taste asks, in this order
abbrev pub tasting_classes : List Kind
tasting_classes = kinds.Mbr ∷ kinds.Ebr ∷ kinds.Label ∷ kinds.Concat ∷ kinds.Stripe ∷ []

-- whether a provider isn't tasted now
abbrev pub is_not_tasted : {C : Type 0} → (ℕ → Counts) → Topology C → ℕ → Bool
is_not_tasted granted t p =
    is_errored t p
    || (option_map_or (λ g. g.withering || nat_le UNTASTED_RANK (rank t g.number)) (geom_of_provider t p) true
    || not ((have granted t p).w == 0))

-- a marked consumer loses its mark, and its geom withers
abbrev pub spoil_consumer : {C : Type 0} → QueuedTopology C → Consumer → QueuedTopology C
spoil_consumer q c =
    wither_unless_withering (record q { topology = set_marks q.topology (λ x. x.number == c.number) false }) c.geom

-- each marked consumer of the provider, in order of numbers
abbrev pub spoil : {C : Type 0} → QueuedTopology C → ℕ → QueuedTopology C
spoil q p = fold spoil_consumer q (filter (λ c. c.spoiled) (attached_to q.topology p))

-- whether a consumer is one of DEV
abbrev pub is_of_dev : {C : Type 0} → Topology C → Consumer → Bool
is_of_dev t c = option_map_or (λ g. is_kind g.kind kinds.Dev) (geom_at t c.geom) false

-- the consumers of DEV at a provider, whose handles become dead, in order of numbers
abbrev pub dying_consumers : {C : Type 0} → Topology C → ℕ → List ℕ
dying_consumers t p = map (λ c. c.number) (filter (is_of_dev t) (attached_to t p))

-- a consumer that isn't of DEV hears that its provider is orphaned: its geom withers
abbrev pub orphan_consumer : {C : Type 0} → QueuedTopology C → Consumer → QueuedTopology C
orphan_consumer q c = if is_of_dev q.topology c then q else wither_unless_withering q c.geom

-- each consumer at the provider, in order of numbers (g_orphan_register)
abbrev pub orphan : {C : Type 0} → QueuedTopology C → ℕ → QueuedTopology C
orphan q p = fold orphan_consumer q (attached_to q.topology p)

-- whether a consumer's provider has outgrown it: it holds no count, and its geom was made by a taste and isn't
-- withering
abbrev pub is_outgrown : {C : Type 0} → (ℕ → Counts) → Topology C → Consumer → Bool
is_outgrown granted t c =
    is_zero (want granted t c) && option_map_or (λ g. g.automatic && not g.withering) (geom_at t c.geom) false

abbrev pub outgrow_consumer : {C : Type 0} → (ℕ → Counts) → QueuedTopology C → Consumer → QueuedTopology C
outgrow_consumer granted q c = if is_outgrown granted q.topology c then wither q c.geom else q

-- a provider has grown: each geom over it that a taste made and that isn't in use goes, in order of the consumers'
-- numbers, and the provider is offered for taste again (g_resize_provider)
abbrev pub resize : {C : Type 0} → (ℕ → Counts) → QueuedTopology C → ℕ → QueuedTopology C
resize granted q p = offer_again (fold (outgrow_consumer granted) q (attached_to q.topology p)) p
