-- Graphs whose providers have names: effects leave them, and a provider of a name comes (g_new_providerf).
use Rattle.std.specs.Prelude.{◌≡◌, ℕ, ◌==◌, true, false, not, ◌||◌, List, [], ◌∷◌, map, filter, fold, Some}
use Rattle.std.specs.List.{AllByRecursion}
use Rattle.geo_base.specs.Name.{is_name}
use Rattle.geo_base.specs.declared.request.Counts.{Counts}
use Rattle.geo_model.specs.declared.step.Event.TheVariants as events
use Rattle.geo_model.specs.Topology.{Topology, Provider, Consumer, attached_to, providers_of, is_errored, geom_of_provider, is_withering, set_error, set_withering, set_size, set_marks, add_provider, add_consumer, remove_provider}
use Rattle.geo_model.specs.World.{Config}
use Rattle.geo_model.specs.Events.{QueuedTopology, post, offer, orphan_provider, wither, wither_unless_withering, spoil_at, offer_again, announce_risen, announce_fallen, spoil_consumer, spoil, is_of_dev, orphan_consumer, orphan, is_outgrown, outgrow_consumer, resize}
use Rattle.geo_model.specs.Acceptance.{NewSlice}
use Rattle.std.specs.Option.{option_map_or}
use Rattle.geo_base.proofs.AllLists.{all_kept, all_pushed, of_each}
use Rattle.geo_laws_texts.proofs.Lists.{all_changed, kept_over, either}

-- the provider has a name that is one
abbrev pub IsNamed : Provider → Type 0
IsNamed p = is_name p.name ≡ true

-- each has
abbrev pub Named : Topology Config → Type 0
Named t = AllByRecursion IsNamed t.providers

-- in a graph with its queue
abbrev pub QueueNamed : QueuedTopology Config → Type 0
QueueNamed q = Named q.topology

-- Changes of one thing

error_named : (t : Topology Config) (p : ℕ) → Named t → Named (set_error t p)
error_named t p named =
    all_changed IsNamed (λ (x : Provider). x.number == p) (λ (x : Provider). record x { errored = true })
    (λ x is. is) t.providers named

pub size_named : (t : Topology Config) (p size : ℕ) → Named t → Named (set_size t p size)
size_named t p size named =
    all_changed IsNamed (λ (x : Provider). x.number == p) (λ (x : Provider). record x { size = size })
    (λ x is. is) t.providers named

pub gone_named : (t : Topology Config) (p : ℕ) → Named t → Named (remove_provider t p)
gone_named t p named = all_kept IsNamed (λ (x : Provider). not (x.number == p)) t.providers named

provider_named : (t : Topology Config) (geom : ℕ) (name : List ℕ) (size sector : ℕ) → is_name name ≡ true → Named t
    → Named (add_provider t geom name size sector)
provider_named t geom name size sector is named = all_pushed IsNamed t.providers _ named is

-- Effects

-- whatever items they are of
folded : {X : Type 0} (f : QueuedTopology Config → X → QueuedTopology Config)
    → ((q : QueuedTopology Config) (x : X) → QueueNamed q → QueueNamed (f q x)) → (xs : List X)
    → (q : QueuedTopology Config) → QueueNamed q → QueueNamed (fold f q xs)
folded {X} f keeps xs q named =
    kept_over QueueNamed (λ (x : X). Unit {0}) f (λ r x so any. keeps r x so) xs q
    (of_each (λ (x : X). Unit {0}) (λ x. tt) xs) named

orphaned : (q : QueuedTopology Config) (p : ℕ) → QueueNamed q → QueueNamed (orphan_provider q p)
orphaned q p named = error_named q.topology p named

pub wither_named : (q : QueuedTopology Config) (g : ℕ) → QueueNamed q → QueueNamed (wither q g)
wither_named q g named =
    folded orphan_provider orphaned
    (map (λ (x : Provider). x.number) (filter (λ (x : Provider). not x.errored) (providers_of q.topology g)))
    (record q { topology = set_withering q.topology g }) named

unless_named : (q : QueuedTopology Config) (g : ℕ) → QueueNamed q → QueueNamed (wither_unless_withering q g)
unless_named q g named =
    either QueueNamed q (wither q g) (is_withering q.topology g) named (wither_named q g named)

spoiled : (q : QueuedTopology Config) (c : Consumer) → QueueNamed q → QueueNamed (spoil_consumer q c)
spoiled q c named =
    unless_named (record q { topology = set_marks q.topology (λ (x : Consumer). x.number == c.number) false }) c.geom
    named

pub spoil_named : (q : QueuedTopology Config) (p : ℕ) → QueueNamed q → QueueNamed (spoil q p)
spoil_named q p named =
    folded spoil_consumer spoiled (filter (λ (c : Consumer). c.spoiled) (attached_to q.topology p)) q named

heard : (q : QueuedTopology Config) (c : Consumer) → QueueNamed q → QueueNamed (orphan_consumer q c)
heard q c named =
    either QueueNamed q (wither_unless_withering q c.geom) (is_of_dev q.topology c) named
    (unless_named q c.geom named)

pub orphan_named : (q : QueuedTopology Config) (p : ℕ) → QueueNamed q → QueueNamed (orphan q p)
orphan_named q p named = folded orphan_consumer heard (attached_to q.topology p) q named

outgrown : (granted : ℕ → Counts) (q : QueuedTopology Config) (c : Consumer) → QueueNamed q
    → QueueNamed (outgrow_consumer granted q c)
outgrown granted q c named =
    either QueueNamed (wither q c.geom) q (is_outgrown granted q.topology c) (wither_named q c.geom named) named

again : (q : QueuedTopology Config) (p : ℕ) → QueueNamed q → QueueNamed (offer_again q p)
again q p named =
    either QueueNamed q (post q (events.NewProvider p))
    (is_errored q.topology p || option_map_or (λ g. g.withering) (geom_of_provider q.topology p) true) named named

pub resize_named : (granted : ℕ → Counts) (q : QueuedTopology Config) (p : ℕ) → QueueNamed q
    → QueueNamed (resize granted q p)
resize_named granted q p named =
    again (fold (outgrow_consumer granted) q (attached_to q.topology p)) p
    (folded (outgrow_consumer granted) (outgrown granted) (attached_to q.topology p) q named)

pub risen_named : (granted : ℕ → Counts) (ps : List ℕ) (q : QueuedTopology Config) → QueueNamed q
    → QueueNamed (announce_risen granted ps q)
risen_named granted ps q named = folded (spoil_at granted) (λ r p so. so) ps q named

pub fallen_named : (ps : List ℕ) (q : QueuedTopology Config) → QueueNamed q → QueueNamed (announce_fallen ps q)
fallen_named ps q named = folded offer_again again ps q named

-- Providers that come

pub offer_named : (q : QueuedTopology Config) (geom : ℕ) (name : List ℕ) (size sector : ℕ) → is_name name ≡ true
    → QueueNamed q → QueueNamed (offer q geom name size sector)
offer_named q geom name size sector is named = provider_named q.topology geom name size sector is named

pub offers_named : (geom sector : ℕ) (xs : List NewSlice) → AllByRecursion (λ x. is_name x.name ≡ true) xs
    → (q : QueuedTopology Config) → QueueNamed q → QueueNamed (fold (λ v x. offer v geom x.name x.size sector) q xs)
offers_named geom sector xs all q named =
    kept_over QueueNamed (λ (x : NewSlice). is_name x.name ≡ true)
    (λ (v : QueuedTopology Config) (x : NewSlice). offer v geom x.name x.size sector)
    (λ v x so is. offer_named v geom x.name x.size sector is so) xs q all named

-- consumers come at some providers
pub consumers_named : (geom : ℕ) (ps : List Provider) (t : Topology Config) → Named t
    → Named (fold (λ u p. add_consumer u geom (Some p.number)) t ps)
consumers_named geom [] t named = named
consumers_named geom (p ∷ ps) t named = consumers_named geom ps (add_consumer t geom (Some p.number)) named
