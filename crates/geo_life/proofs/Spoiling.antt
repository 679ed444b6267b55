-- The walks over the consumers above a provider that hear of its spoil or its orphan.
use Rattle.std.specs.Prelude.{◌≡◌, ℕ, ◌+◌, ◌==◌, Bool, true, false, List, [], ◌∷◌, filter, fold, if◌then◌else◌}
use Rattle.std.proofs.Common.{refl, ap, ◌∙◌, arith, rules}
use Rattle.geo_base.specs.declared.request.Counts.{Counts}
use Rattle.geo_model.specs.Topology.{Topology, Consumer, set_marks}
use Rattle.geo_model.specs.Events.{QueuedTopology, orphan_provider, wither, wither_unless_withering, spoil_consumer, spoil, orphan_consumer, is_outgrown, outgrow_consumer}
use Rattle.geo_laws_graph.specs.LookupLaws.{left_from}
use Rattle.geo_laws_graph.proofs.Walks.{walk-begin}
use Rattle.geo_life.specs.Life.{consumers_above, AreHandlesUnmarked}
use Rattle.geo_life.proofs.Uppers.{spoil_above, above_marked}
use Rattle.geo_life.proofs.Withering.{left_past}
use Rattle.geo_life.proofs.Rest.{if_leaves, orphan_leaves, unless_leaves}

module _ {C : Type 0} where
  -- a consumer that is outgrown leaves all consumers
  pub outgrow_leaves : (granted : ℕ → Counts) (q : QueuedTopology C) (x : Consumer)
      → (outgrow_consumer granted q x).topology.consumers ≡ q.topology.consumers
  outgrow_leaves granted q x =
      if_leaves (λ (t : Topology C). t.consumers) (λ t p. refl) (λ t g. refl) (is_outgrown granted q.topology x) q
      (outgrow_consumer granted q x) x.geom refl

  -- so does one that hears of an orphan
  pub heard_leaves : (q : QueuedTopology C) (x : Consumer)
      → (orphan_consumer q x).topology.consumers ≡ q.topology.consumers
  heard_leaves = orphan_leaves (λ (t : Topology C). t.consumers) (λ t p. refl) (λ t g. refl)

  -- the next number of consumers stays where a geom withers
  pub unless_next : (q : QueuedTopology C) (g : ℕ)
      → (wither_unless_withering q g).topology.next_consumer ≡ q.topology.next_consumer
  unless_next = unless_leaves (λ (t : Topology C). t.next_consumer) (λ t p. refl) (λ t g. refl)

  -- it is that of what the model says
  pub next_is : (after new : QueuedTopology C) → new ≡ after → new.topology.next_consumer ≡ after.topology.next_consumer
  next_is after new is = ap (λ (r : QueuedTopology C). r.topology.next_consumer) is

  -- so where a geom may wither
  pub if_next : (b : Bool) (q new : QueuedTopology C) (g : ℕ) → new ≡ (if b then wither q g else q)
      → new.topology.next_consumer ≡ q.topology.next_consumer
  if_next = if_leaves (λ (t : Topology C). t.next_consumer) (λ t p. refl) (λ t g. refl)

  -- a provider that may be orphaned leaves the next number of providers
  pub error_next : (b : Bool) (q new : QueuedTopology C) (p : ℕ) → new ≡ (if b then q else orphan_provider q p)
      → new.topology.next_provider ≡ q.topology.next_provider
  error_next true q new p is = ap (λ (r : QueuedTopology C). r.topology.next_provider) is
  error_next false q new p is = ap (λ (r : QueuedTopology C). r.topology.next_provider) is

module _ {C : Type 0} (p : ℕ) where
  -- the consumers above the provider from a number on
  abbrev pub users_left : Topology C → ℕ → List Consumer
  users_left t from_number = left_from (λ (c : Consumer). c.number) from_number (consumers_above t p)

  -- they are the same where the consumers are
  same_users : (t u : Topology C) → u.consumers ≡ t.consumers → (n : ℕ) → users_left u n ≡ users_left t n
  same_users t u same n = search rules

  -- A spoil

  -- the marked consumers that are left, spoiled in order
  abbrev pub spoil_left : QueuedTopology C → ℕ → QueuedTopology C
  spoil_left q from_number = fold spoil_consumer q (filter (λ c. c.spoiled) (users_left q.topology from_number))

  -- at the beginning all of them are left
  pub spoil_begin : (q : QueuedTopology C) → AreHandlesUnmarked q.topology → spoil_left q 0 ≡ spoil q p
  spoil_begin q unmarked =
      ap (λ xs. fold spoil_consumer q (filter (λ c. c.spoiled) xs))
      (walk-begin (λ (c : Consumer). c.number) (consumers_above q.topology p))
      ∙ ap (fold spoil_consumer q) (spoil_above q.topology p unmarked)

  -- one that loses its mark isn't among those behind it
  spoil_past : (q : QueuedTopology C) (x : Consumer)
      → users_left (spoil_consumer q x).topology (x.number + 1) ≡ users_left q.topology (x.number + 1)
  spoil_past q x =
      same_users (set_marks q.topology (λ c. c.number == x.number) false) (spoil_consumer q x).topology
      (unless_leaves (λ (t : Topology C). t.consumers) (λ t p. refl) (λ t g. refl)
      (record q { topology = set_marks q.topology (λ c. c.number == x.number) false }) x.geom)
      (x.number + 1)
      ∙ ap (left_from (λ (c : Consumer). c.number) (x.number + 1))
      (above_marked q.topology (λ c. c.number == x.number) false p)
      ∙ left_past (λ (c : Consumer). c.number) (λ c. record c { spoiled = false }) (λ c. refl) x.number (x.number + 1)
      (omega arith) (consumers_above q.topology p)

  -- one with a mark is spoiled
  pub spoil_one : (q : QueuedTopology C) (from_number : ℕ) (x : Consumer)
      → users_left q.topology from_number ≡ x ∷ users_left q.topology (x.number + 1) → x.spoiled ≡ true
      → spoil_left (spoil_consumer q x) (x.number + 1) ≡ spoil_left q from_number
  spoil_one q from_number x left is = search (rules, spoil_past q x)

  -- either way
  pub spoil_step : (q new : QueuedTopology C) (from_number : ℕ) (x : Consumer)
      → users_left q.topology from_number ≡ x ∷ users_left q.topology (x.number + 1)
      → new ≡ (if x.spoiled then spoil_consumer q x else q)
      → spoil_left new (x.number + 1) ≡ spoil_left q from_number
  spoil_step q new from_number x left is = search (rules, spoil_one q from_number x left)

  -- at the end none is left
  pub spoil_end : (q : QueuedTopology C) (from_number : ℕ) → users_left q.topology from_number ≡ []
      → spoil_left q from_number ≡ q
  spoil_end q from_number none = ap (λ xs. fold spoil_consumer q (filter (λ c. c.spoiled) xs)) none

  -- Walks that leave all consumers

  module _ (f : QueuedTopology C → Consumer → QueuedTopology C)
      (leaves : (q : QueuedTopology C) (x : Consumer) → (f q x).topology.consumers ≡ q.topology.consumers) where
    -- the consumers that are left, in order
    abbrev pub hear_left : QueuedTopology C → ℕ → QueuedTopology C
    hear_left q from_number = fold f q (users_left q.topology from_number)

    -- at the beginning all of them are left
    pub hear_begin : (q : QueuedTopology C) → hear_left q 0 ≡ fold f q (consumers_above q.topology p)
    hear_begin q = ap (fold f q) (walk-begin (λ (c : Consumer). c.number) (consumers_above q.topology p))

    -- by what was done
    pub hear_step : (q new : QueuedTopology C) (from_number : ℕ) (x : Consumer)
        → users_left q.topology from_number ≡ x ∷ users_left q.topology (x.number + 1) → new ≡ f q x
        → hear_left new (x.number + 1) ≡ hear_left q from_number
    hear_step q new from_number x left is = search rules

    -- at the end none is left
    pub hear_end : (q : QueuedTopology C) (from_number : ℕ) → users_left q.topology from_number ≡ []
        → hear_left q from_number ≡ q
    hear_end q from_number none = ap (fold f q) none
