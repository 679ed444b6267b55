-- What effects do to a graph: each part is still new or stood before.
use Rattle.std.specs.Prelude.{ℕ, ◌==◌, Bool, true, false, not, ◌||◌, List, [], ◌∷◌, map, filter, fold, Some, if◌then◌else◌}
use Rattle.geo_base.specs.declared.request.Counts.{Counts}
use Rattle.geo_model.specs.declared.step.Event.TheVariants as events
use Rattle.geo_model.specs.Topology.{Topology, Provider, Consumer, attached_to, providers_of, is_errored, geom_of_provider, is_withering, set_withering, set_marks, add_consumer}
use Rattle.geo_model.specs.World.{Config}
use Rattle.geo_model.specs.Events.{QueuedTopology, post, offer, orphan_provider, wither, wither_unless_withering, is_to_spoil, spoil_at, offer_again, announce_risen, announce_fallen, spoil_consumer, spoil, is_of_dev, orphan_consumer, orphan, is_outgrown, outgrow_consumer, resize}
use Rattle.geo_model.specs.Acceptance.{NewSlice}
use Rattle.std.specs.Option.{option_map_or}
use Rattle.geo_laws_steps.specs.Heirs.{Inherits}
use Rattle.geo_laws_steps.proofs.Heirs.{heir-error, heir-withering, heir-marks, heir-provider, heir-consumer}

module _ (T : ℕ → Type 0) (t : Topology Config) where
  -- the graph with a queue comes from the first graph
  abbrev pub Comes : QueuedTopology Config → Type 0
  Comes q = Inherits T t q.topology

  -- one of two
  pub comes-whether : (q r : QueuedTopology Config) (b : Bool) → Comes q → Comes r → Comes (if b then q else r)
  comes-whether q r true first second = first
  comes-whether q r false first second = second

  -- for each of some things
  pub comes-fold : {X : Type 0} (f : QueuedTopology Config → X → QueuedTopology Config)
      → ((q : QueuedTopology Config) (x : X) → Comes q → Comes (f q x)) → (xs : List X) (q : QueuedTopology Config)
      → Comes q → Comes (fold f q xs)
  comes-fold f one [] q comes = comes
  comes-fold f one (x ∷ xs) q comes = comes-fold f one xs (f q x) (one q x comes)

  -- a provider is orphaned
  comes-orphaned : (q : QueuedTopology Config) (p : ℕ) → Comes q → Comes (orphan_provider q p)
  comes-orphaned q p comes = heir-error T t q.topology comes p

  -- a geom withers
  pub comes-wither : (q : QueuedTopology Config) (g : ℕ) → Comes q → Comes (wither q g)
  comes-wither q g comes =
      comes-fold orphan_provider comes-orphaned
      (map (λ (x : Provider). x.number) (filter (λ (x : Provider). not x.errored) (providers_of q.topology g)))
      (record q { topology = set_withering q.topology g }) (heir-withering T t q.topology comes g)

  -- unless it withers already
  comes-unless : (q : QueuedTopology Config) (g : ℕ) → Comes q → Comes (wither_unless_withering q g)
  comes-unless q g comes =
      comes-whether q (wither q g) (is_withering q.topology g) comes (comes-wither q g comes)

  -- a marked consumer loses its mark, and its geom withers
  comes-spoiled : (q : QueuedTopology Config) (c : Consumer) → Comes q → Comes (spoil_consumer q c)
  comes-spoiled q c comes =
      let u : Topology Config = set_marks q.topology (λ (x : Consumer). x.number == c.number) false in
      comes-unless (record q { topology = u }) c.geom
      (heir-marks T t q.topology comes (λ (x : Consumer). x.number == c.number) false)

  -- a spoil is done
  pub comes-spoil : (q : QueuedTopology Config) (p : ℕ) → Comes q → Comes (spoil q p)
  comes-spoil q p comes =
      comes-fold spoil_consumer comes-spoiled
      (filter (λ (c : Consumer). c.spoiled) (attached_to q.topology p)) q comes

  -- a consumer hears that its provider is orphaned
  comes-heard : (q : QueuedTopology Config) (c : Consumer) → Comes q → Comes (orphan_consumer q c)
  comes-heard q c comes =
      comes-whether q (wither_unless_withering q c.geom) (is_of_dev q.topology c) comes
      (comes-unless q c.geom comes)

  -- an orphan is done
  pub comes-orphan : (q : QueuedTopology Config) (p : ℕ) → Comes q → Comes (orphan q p)
  comes-orphan q p comes = comes-fold orphan_consumer comes-heard (attached_to q.topology p) q comes

  -- a geom that its provider has outgrown withers
  comes-outgrown : (granted : ℕ → Counts) (q : QueuedTopology Config) (c : Consumer) → Comes q
      → Comes (outgrow_consumer granted q c)
  comes-outgrown granted q c comes =
      comes-whether (wither q c.geom) q (is_outgrown granted q.topology c) (comes-wither q c.geom comes) comes

  -- a provider is offered again, or not
  comes-again : (q : QueuedTopology Config) (p : ℕ) → Comes q → Comes (offer_again q p)
  comes-again q p comes =
      comes-whether q (post q (events.NewProvider p))
      (is_errored q.topology p || option_map_or (λ g. g.withering) (geom_of_provider q.topology p) true) comes comes

  -- a resize is done
  pub comes-resize : (granted : ℕ → Counts) (q : QueuedTopology Config) (p : ℕ) → Comes q
      → Comes (resize granted q p)
  comes-resize granted q p comes =
      comes-again (fold (outgrow_consumer granted) q (attached_to q.topology p)) p
      (comes-fold (outgrow_consumer granted) (comes-outgrown granted) (attached_to q.topology p) q comes)

  -- consumers are marked at some providers
  pub comes-risen : (granted : ℕ → Counts) (ps : List ℕ) (q : QueuedTopology Config) → Comes q
      → Comes (announce_risen granted ps q)
  comes-risen granted ps q comes =
      comes-fold (spoil_at granted)
      (λ r p here. heir-marks T t r.topology here (is_to_spoil granted r.topology p) true) ps q comes

  -- some providers are offered again
  pub comes-fallen : (ps : List ℕ) (q : QueuedTopology Config) → Comes q → Comes (announce_fallen ps q)
  comes-fallen ps q comes = comes-fold offer_again comes-again ps q comes

  -- a provider is made and offered
  pub comes-offer : (q : QueuedTopology Config) (geom : ℕ) (name : List ℕ) (size sector : ℕ) → Comes q
      → Comes (offer q geom name size sector)
  comes-offer q geom name size sector comes = heir-provider T t q.topology comes geom name size sector

  -- so are several
  pub comes-offers : (geom sector : ℕ) (xs : List NewSlice) (q : QueuedTopology Config) → Comes q
      → Comes (fold (λ v x. offer v geom x.name x.size sector) q xs)
  comes-offers geom sector xs q comes =
      comes-fold (λ v x. offer v geom x.name x.size sector)
      (λ v x here. comes-offer v geom x.name x.size sector here) xs
      q comes

  -- consumers of a geom come at some providers
  pub comes-consumers : (geom : ℕ) (ps : List Provider) (u : Topology Config) → Inherits T t u
      → Inherits T t (fold (λ v p. add_consumer v geom (Some p.number)) u ps)
  comes-consumers geom [] u comes = comes
  comes-consumers geom (p ∷ ps) u comes =
      comes-consumers geom ps (add_consumer u geom (Some p.number)) (heir-consumer T t u comes geom (Some p.number))
