-- Changes by which each part of a graph stays: the effects that offer nothing for taste.
use Rattle.std.specs.Prelude.{◌≡◌, ℕ, ◌+◌, ◌==◌, Bool, true, false, not, List, [], ◌∷◌, ◌++◌, length, map, filter, find, fold, Option, Some, None, count_by, if◌then◌else◌}
use Rattle.std.proofs.Common.{refl, sym, ◌∙◌, ap, arith}
use Rattle.std.proofs.lemmas.List.Sums.{length-filter}
use Rattle.geo_base.proofs.Options.{none-mapped}
use Rattle.geo_base.specs.declared.kind.Kind.{Kind}
use Rattle.geo_base.specs.declared.request.Counts.{Counts}
use Rattle.geo_model.specs.declared.step.Event.{Event}
use Rattle.geo_model.specs.declared.step.Event.TheVariants as events
use Rattle.geo_model.specs.Words.{change_where}
use Rattle.geo_model.specs.Topology.{Topology, Geom, Provider, Consumer, attached_to, providers_of, is_withering, set_error, set_withering, set_marks, set_config, set_size, note_started, add_geom, add_provider, add_consumer}
use Rattle.geo_model.specs.World.{Config}
use Rattle.geo_model.specs.Events.{QueuedTopology, post, orphan_provider, wither, wither_unless_withering, is_to_spoil, spoil_at, announce_risen, spoil_consumer, spoil, is_of_dev, orphan_consumer, orphan, is_outgrown, outgrow_consumer}
use Rattle.geo_model.specs.Steady.{is_offer_of}
use Rattle.geo_laws_graph.proofs.Lists.{changed, find-changed}
use Rattle.geo_laws_graph.proofs.Living.{found-before}
use Rattle.geo_laws_graph.proofs.Numbered.{filter-pushed}
use Rattle.geo_laws_offers.specs.OfferingLaws.{StaysThere, OnlyAdds}

-- an event that isn't such an offer isn't counted
pub not-counted : (p : ℕ) (queue : List Event) (e : Event) → is_offer_of p e ≡ false
    → count_by (is_offer_of p) (queue ++ e ∷ []) ≡ count_by (is_offer_of p) queue
not-counted p queue e other =
    sym (length-filter (is_offer_of p) (queue ++ e ∷ []))
    ∙ ap (λ (es : List Event). length es) (filter-pushed (is_offer_of p) queue e other)
    ∙ length-filter (is_offer_of p) queue

-- Graphs

-- a graph keeps its parts
pub stays-same : (t : Topology Config) → StaysThere t t
stays-same t = record { geoms = λ g gone. gone; providers = λ p gone. gone; consumers = λ c gone. gone }

-- so over two changes
pub stays-trans : (t u v : Topology Config) → StaysThere t u → StaysThere u v → StaysThere t v
stays-trans t u v first second = record {
  geoms = λ g gone. first.geoms g (second.geoms g gone);
  providers = λ p gone. first.providers p (second.providers p gone);
  consumers = λ c gone. first.consumers c (second.consumers c gone);
}

module _ {X : Type 0} (test : X → Bool) (xs : List X) where
  -- what isn't found among more wasn't found, by what was
  fewer-by : (ys : List X) → find test (xs ++ ys) ≡ None → (o : Option X) → find test xs ≡ o → find test xs ≡ None
  fewer-by ys gone None e = e
  fewer-by ys gone (Some x) e =
      let still : find test (xs ++ ys) ≡ Some x = found-before test xs ys x e in
      absurd (let bad : ⊥ = cc in bad)

  -- so whatever was
  none-fewer : (ys : List X) → find test (xs ++ ys) ≡ None → find test xs ≡ None
  none-fewer ys gone = fewer-by ys gone (find test xs) refl

  -- what isn't found after a change wasn't found before
  none-changed : (hit : X → Bool) (change : X → X) → ((x : X) → test (change x) ≡ test x)
      → find test (change_where hit change xs) ≡ None → find test xs ≡ None
  none-changed hit change same gone =
      none-mapped (changed hit change) (find test xs)
      (sym (find-changed hit change test (λ x e. same x) xs) ∙ gone)

module _ (t : Topology Config) where
  -- changes of some geoms keep the parts
  pub geoms-stay : (hit : Geom Config → Bool) (change : Geom Config → Geom Config)
      → ((x : Geom Config) → (change x).number ≡ x.number)
      → StaysThere t (record t { geoms = change_where hit change t.geoms })
  geoms-stay hit change same = record {
    geoms = λ g gone. none-changed (λ (x : Geom Config). x.number == g) t.geoms hit change
        (λ x. ap (λ n. n == g) (same x)) gone;
    providers = λ p gone. gone;
    consumers = λ c gone. gone;
  }

  -- so of some providers
  pub providers-stay : (hit : Provider → Bool) (change : Provider → Provider)
      → ((x : Provider) → (change x).number ≡ x.number)
      → StaysThere t (record t { providers = change_where hit change t.providers })
  providers-stay hit change same = record {
    geoms = λ g gone. gone;
    providers = λ p gone. none-changed (λ (x : Provider). x.number == p) t.providers hit change
        (λ x. ap (λ n. n == p) (same x)) gone;
    consumers = λ c gone. gone;
  }

  -- and of some consumers
  pub consumers-stay : (hit : Consumer → Bool) (change : Consumer → Consumer)
      → ((x : Consumer) → (change x).number ≡ x.number)
      → StaysThere t (record t { consumers = change_where hit change t.consumers })
  consumers-stay hit change same = record {
    geoms = λ g gone. gone;
    providers = λ p gone. gone;
    consumers = λ c gone. none-changed (λ (x : Consumer). x.number == c) t.consumers hit change
        (λ x. ap (λ n. n == c) (same x)) gone;
  }

  -- an error, another size, a geom that withers, marks, a configuration and a started request keep the parts
  pub error-stays : (p : ℕ) → StaysThere t (set_error t p)
  error-stays p = providers-stay (λ (x : Provider). x.number == p) (λ (x : Provider). record x { errored = true })
      (λ x. refl)

  -- another size
  pub size-stays : (p size : ℕ) → StaysThere t (set_size t p size)
  size-stays p size = providers-stay (λ (x : Provider). x.number == p) (λ (x : Provider). record x { size = size })
      (λ x. refl)

  -- a geom that withers
  pub withering-stays : (g : ℕ) → StaysThere t (set_withering t g)
  withering-stays g = geoms-stay (λ (x : Geom Config). x.number == g)
      (λ (x : Geom Config). record x { withering = true }) (λ x. refl)

  -- another configuration
  pub config-stays : (g : ℕ) (config : Config) → StaysThere t (set_config t g config)
  config-stays g config = geoms-stay (λ (x : Geom Config). x.number == g)
      (λ (x : Geom Config). record x { config = config }) (λ x. refl)

  -- a started request
  pub started-stays : (g : ℕ) → StaysThere t (note_started t g)
  started-stays g = geoms-stay (λ (x : Geom Config). x.number == g)
      (λ (x : Geom Config). record x { started = x.started + 1 }) (λ x. refl)

  -- marks
  pub marks-stay : (test : Consumer → Bool) (mark : Bool) → StaysThere t (set_marks t test mark)
  marks-stay test mark = consumers-stay test (λ (x : Consumer). record x { spoiled = mark }) (λ x. refl)

  -- a new geom
  pub geom-stays : (kind : Kind) (name : List ℕ) (config : Config) (automatic : Bool)
      → StaysThere t (add_geom t kind name config automatic)
  geom-stays kind name config automatic = record {
    geoms = λ g gone. none-fewer (λ (x : Geom Config). x.number == g) t.geoms _ gone;
    providers = λ p gone. gone;
    consumers = λ c gone. gone;
  }

  -- a new provider
  pub provider-stays : (geom : ℕ) (name : List ℕ) (size sector : ℕ)
      → StaysThere t (add_provider t geom name size sector)
  provider-stays geom name size sector = record {
    geoms = λ g gone. gone;
    providers = λ p gone. none-fewer (λ (x : Provider). x.number == p) t.providers _ gone;
    consumers = λ c gone. gone;
  }

  -- a new consumer
  pub consumer-stays : (geom : ℕ) (o : Option ℕ) → StaysThere t (add_consumer t geom o)
  consumer-stays geom o = record {
    geoms = λ g gone. gone;
    providers = λ p gone. gone;
    consumers = λ c gone. none-fewer (λ (x : Consumer). x.number == c) t.consumers _ gone;
  }

-- Graphs and queues

-- each part stays, and nothing is offered for taste
pub record IsQuiet (q r : QueuedTopology Config) : Type 0 where
  pub stays : StaysThere q.topology r.topology
  pub count : (p : ℕ) → count_by (is_offer_of p) r.events ≡ count_by (is_offer_of p) q.events

-- nothing happens
pub quiet-same : (q : QueuedTopology Config) → IsQuiet q q
quiet-same q = record { stays = stays-same q.topology; count = λ p. refl }

-- one after another
pub quiet-trans : (q r s : QueuedTopology Config) → IsQuiet q r → IsQuiet r s → IsQuiet q s
quiet-trans q r s first second = record {
  stays = stays-trans q.topology r.topology s.topology first.stays second.stays;
  count = λ p. second.count p ∙ first.count p;
}

-- a change of the graph alone
pub quiet-change : (q : QueuedTopology Config) (u : Topology Config) → StaysThere q.topology u
    → IsQuiet q (record q { topology = u })
quiet-change q u stays = record { stays = stays; count = λ p. refl }

-- an event that isn't an offer is posted
pub quiet-post : (q : QueuedTopology Config) (e : Event) → ((p : ℕ) → is_offer_of p e ≡ false) → IsQuiet q (post q e)
quiet-post q e other = record { stays = stays-same q.topology; count = λ p. not-counted p q.events e (other p) }

-- something happens or nothing does
pub quiet-whether : (q r : QueuedTopology Config) (b : Bool) → IsQuiet q r → IsQuiet q (if b then q else r)
quiet-whether q r true quiet = quiet-same q
quiet-whether q r false quiet = quiet

-- it happens or not
pub quiet-where : (q r : QueuedTopology Config) (b : Bool) → IsQuiet q r → IsQuiet q (if b then r else q)
quiet-where q r true quiet = quiet
quiet-where q r false quiet = quiet-same q

-- for each of some things
pub quiet-fold : {X : Type 0} (f : QueuedTopology Config → X → QueuedTopology Config)
    → ((q : QueuedTopology Config) (x : X) → IsQuiet q (f q x)) → (xs : List X) (q : QueuedTopology Config)
    → IsQuiet q (fold f q xs)
quiet-fold f one [] q = quiet-same q
quiet-fold f one (x ∷ xs) q = quiet-trans q (f q x) (fold f (f q x) xs) (one q x) (quiet-fold f one xs (f q x))

-- a provider is orphaned
orphan_provider-quiet : (q : QueuedTopology Config) (p : ℕ) → IsQuiet q (orphan_provider q p)
orphan_provider-quiet q p =
    quiet-trans q (record q { topology = set_error q.topology p }) (orphan_provider q p)
    (quiet-change q (set_error q.topology p) (error-stays q.topology p))
    (quiet-post (record q { topology = set_error q.topology p }) (events.Orphan p) (λ n. refl))

-- a geom withers
pub wither-quiet : (q : QueuedTopology Config) (g : ℕ) → IsQuiet q (wither q g)
wither-quiet q g =
    quiet-trans q (record q { topology = set_withering q.topology g }) (wither q g)
    (quiet-change q (set_withering q.topology g) (withering-stays q.topology g))
    (quiet-fold orphan_provider orphan_provider-quiet
    (map (λ (x : Provider). x.number) (filter (λ (x : Provider). not x.errored) (providers_of q.topology g)))
    (record q { topology = set_withering q.topology g }))

-- unless it withers already
pub unless-quiet : (q : QueuedTopology Config) (g : ℕ) → IsQuiet q (wither_unless_withering q g)
unless-quiet q g = quiet-whether q (wither q g) (is_withering q.topology g) (wither-quiet q g)

-- a marked consumer loses its mark, and its geom withers
spoil_consumer-quiet : (q : QueuedTopology Config) (c : Consumer) → IsQuiet q (spoil_consumer q c)
spoil_consumer-quiet q c =
    let u : Topology Config = set_marks q.topology (λ (x : Consumer). x.number == c.number) false in
    quiet-trans q (record q { topology = u }) (spoil_consumer q c)
    (quiet-change q u (marks-stay q.topology (λ (x : Consumer). x.number == c.number) false))
    (unless-quiet (record q { topology = u }) c.geom)

-- a spoil is done
pub spoil-quiet : (q : QueuedTopology Config) (p : ℕ) → IsQuiet q (spoil q p)
spoil-quiet q p =
    quiet-fold spoil_consumer spoil_consumer-quiet
    (filter (λ (c : Consumer). c.spoiled) (attached_to q.topology p)) q

-- a consumer hears that its provider is orphaned
orphan_consumer-quiet : (q : QueuedTopology Config) (c : Consumer) → IsQuiet q (orphan_consumer q c)
orphan_consumer-quiet q c =
    quiet-whether q (wither_unless_withering q c.geom) (is_of_dev q.topology c) (unless-quiet q c.geom)

-- an orphan is done
pub orphan-quiet : (q : QueuedTopology Config) (p : ℕ) → IsQuiet q (orphan q p)
orphan-quiet q p = quiet-fold orphan_consumer orphan_consumer-quiet (attached_to q.topology p) q

-- a geom that its provider has outgrown withers
pub outgrow-quiet : (granted : ℕ → Counts) (q : QueuedTopology Config) (c : Consumer)
    → IsQuiet q (outgrow_consumer granted q c)
outgrow-quiet granted q c =
    quiet-where q (wither q c.geom) (is_outgrown granted q.topology c) (wither-quiet q c.geom)

-- consumers are marked, and the spoil is posted
spoil_at-quiet : (granted : ℕ → Counts) (q : QueuedTopology Config) (p : ℕ) → IsQuiet q (spoil_at granted q p)
spoil_at-quiet granted q p =
    let u : Topology Config = set_marks q.topology (is_to_spoil granted q.topology p) true in
    quiet-trans q (record q { topology = u }) (spoil_at granted q p)
    (quiet-change q u (marks-stay q.topology (is_to_spoil granted q.topology p) true))
    (quiet-post (record q { topology = u }) (events.Spoil p) (λ n. refl))

-- so at some providers
pub risen-quiet : (granted : ℕ → Counts) (ps : List ℕ) (q : QueuedTopology Config)
    → IsQuiet q (announce_risen granted ps q)
risen-quiet granted ps q = quiet-fold (spoil_at granted) (spoil_at-quiet granted) ps q

-- what is quiet only adds
pub quiet-adds : (q r : QueuedTopology Config) → IsQuiet q r → OnlyAdds q r
quiet-adds q r quiet = record {
  stays = quiet.stays;
  offers = λ p more. let same = quiet.count p in absurd (omega (arith, more, same));
}

-- what is quiet, and then what only adds
pub adds-after : (q r s : QueuedTopology Config) → IsQuiet q r → OnlyAdds r s → OnlyAdds q s
adds-after q r s quiet adds = record {
  stays = stays-trans q.topology r.topology s.topology quiet.stays adds.stays;
  offers = λ p more. let same = quiet.count p in adds.offers p (omega (arith, more, same));
}
