-- Changes of a graph that counts don't see leave grants, stored counts and notes; so do all but washing.
use Rattle.std.specs.Prelude.{◌≡◌, ◌⊎◌, ℕ, ◌==◌, Bool, true, false, List, map, find, Option, None, Contains, All, unwrap_or, if◌then◌else◌, filter}
use Rattle.std.specs.Option.{option_map_or}
use Rattle.std.proofs.Common.{refl, sym, ◌∙◌, ap, subst, rules}
use Rattle.std.proofs.lemmas.List.Elements.{All-contains}
use Rattle.std.proofs.lemmas.Simd.{map-map}
use Rattle.geo_base.specs.declared.kind.Kind.{Kind}
use Rattle.geo_base.specs.declared.request.Counts.{Counts}
use Rattle.geo_model.specs.Words.{is_granted_kind}
use Rattle.geo_model.specs.Topology.{Topology, Geom, Provider, Consumer, attached_to, set_error, set_withering, set_marks}
use Rattle.geo_model.specs.Demand.{no_counts, have, want}
use Rattle.geo_slots.specs.Slots.{value_at}
use Rattle.geo_mesh.specs.Topo.{TopoView, no_scratch, with_topology}
use Rattle.geo_laws_graph.proofs.Members.{map-Contains, Contains-map}
use Rattle.geo_laws_counts.specs.CountWords.{Seen, seen_by_counts, DemandStays, AnyConsumer}
use Rattle.geo_laws_counts.proofs.LimitFacts.{all_of}
use Rattle.geo_laws_counts.proofs.SeenCounts.{seen_stays}
use Rattle.geo_laws_counts.proofs.Stays.{grants_agree}
use Rattle.geo_access.specs.Access.{granted_by, holds_grants, clear_scratches, IsCounted}
use Rattle.geo_access.proofs.Clearing.{rows-same_on, rows_agree}
use Rattle.geo_life.specs.Life.{AreStored, CountsStay, queued, RestStays}
use Rattle.geo_base.proofs.FindLists.{find-map}
use Rattle.geo_model.specs.Events.{QueuedTopology, wither, spoil_consumer, spoil, orphan_consumer, orphan}
use Rattle.geo_event.specs.EventQueue.{Queued}
use Rattle.geo_laws_graph.proofs.Lists.{map-changed}
use Rattle.geo_life.proofs.Rest.{wither_leaves, if_leaves, orphan_leaves, unless_leaves}
use Rattle.geo_access.proofs.Folding.{fold_leaves}

-- what is seen of a consumer, and of a provider
abbrev consumer_seen : Consumer → ℕ × ℕ × Option ℕ
consumer_seen x = (x.number, x.geom, x.provider)

abbrev provider_seen : Provider → ℕ × ℕ
provider_seen x = (x.number, x.geom)

-- whether a geom is of DEV or TASTE, from what is seen
abbrev holds_seen : Seen → ℕ → Bool
holds_seen s g = option_map_or (λ (x : ℕ × Kind). is_granted_kind x.1) (find (λ (x : ℕ × Kind). x.0 == g) s.geoms) false

-- what a consumer is granted, from what is seen and the stored counts
abbrev granted_seen : Seen → List (ℕ × Counts) → ℕ → Counts
granted_seen s wants c =
    option_map_or
    (λ (x : ℕ × ℕ × Option ℕ). if holds_seen s x.1 then unwrap_or (value_at wants c) no_counts else no_counts)
    (find (λ (x : ℕ × ℕ × Option ℕ). x.0 == c) s.consumers)
    no_counts

module _ {C : Type 0} where
  -- what is seen of a geom
  abbrev geom_seen : Geom C → ℕ × Kind
  geom_seen x = (x.number, x.kind)

  -- the class of a geom is seen
  holds_is_seen : (t : Topology C) (g : ℕ) → holds_grants t g ≡ holds_seen (seen_by_counts t) g
  holds_is_seen t g = search (rules, find-map (λ (y : ℕ × Kind). y.0 == g) geom_seen t.geoms)

  -- so is what a consumer is granted
  granted_is_seen : (t : TopoView C) (c : ℕ)
      → granted_by t c ≡ granted_seen (seen_by_counts t.topology) t.wants c
  granted_is_seen t c =
      search (
        rules,
        find-map (λ (y : ℕ × ℕ × Option ℕ). y.0 == c) consumer_seen t.topology.consumers,
        holds_is_seen t.topology,
      )

module _ {C : Type 0} (t : TopoView C) (u : Topology C) (same : seen_by_counts u ≡ seen_by_counts t.topology) where
  -- the mesh with the other graph
  abbrev other : TopoView C
  other = with_topology t u

  -- each consumer is granted what it was
  grants_stay : (c : ℕ) → granted_by other c ≡ granted_by t c
  grants_stay c = search (rules, granted_is_seen other c, granted_is_seen t c)

  -- numbers are what they were
  geom_rows : {V : Type 0} (f : ℕ → V)
      → map {B = ℕ × V} (λ (x : Geom C). (x.number, f x.number)) u.geoms
      ≡ map {B = ℕ × V} (λ (x : Geom C). (x.number, f x.number)) t.topology.geoms
  geom_rows {V} f =
      let row : ℕ × Kind → ℕ × V = λ x. (x.0, f x.0) in
      search (rules, map-map row geom_seen u.geoms, map-map row geom_seen t.topology.geoms)

  pub provider_rows : {V : Type 0} (f : ℕ → V)
      → map {B = ℕ × V} (λ (x : Provider). (x.number, f x.number)) u.providers
      ≡ map {B = ℕ × V} (λ (x : Provider). (x.number, f x.number)) t.topology.providers
  provider_rows {V} f =
      let row : ℕ × ℕ → ℕ × V = λ x. (x.0, f x.0) in
      search (rules, map-map row provider_seen u.providers, map-map row provider_seen t.topology.providers)

  provider_keys : map (λ (x : Provider). x.number) u.providers ≡ map (λ (x : Provider). x.number) t.topology.providers
  provider_keys =
      sym (map-map (λ (x : ℕ × ℕ). x.0) provider_seen u.providers)
      ∙ ap (λ (s : Seen). map (λ (x : ℕ × ℕ). x.0) s.providers) same
      ∙ map-map (λ (x : ℕ × ℕ). x.0) provider_seen t.topology.providers

  consumer_rows : {V : Type 0} (f : ℕ → ℕ → V)
      → map {B = ℕ × V} (λ (x : Consumer). (x.number, f x.number x.geom)) u.consumers
      ≡ map {B = ℕ × V} (λ (x : Consumer). (x.number, f x.number x.geom)) t.topology.consumers
  consumer_rows {V} f =
      let row : ℕ × ℕ × Option ℕ → ℕ × V = λ x. (x.0, f x.0 x.1) in
      search (rules, map-map row consumer_seen u.consumers, map-map row consumer_seen t.topology.consumers)

  -- wants are stored by the same grants
  stores_stay : (granted : ℕ → Counts) → AreStored granted t → AreStored granted other
  stores_stay granted stored =
      search (
        rules,
        consumer_rows
            (λ n g. want granted t.topology (record { number = n; geom = g; provider = None; spoiled = false })),
        rows_agree (λ (c : Consumer). c.number) (want granted t.topology) (want granted u) u.consumers
            (λ c there. sym ((seen_stays granted t.topology u (sym same)).wants c tt)),
      )

  -- only the first two geoms are of DEV or TASTE
  kinds_stay : All (λ (g : Geom C). is_granted_kind g.kind ≡ true → (g.number ≡ 1) ⊎ (g.number ≡ 2)) t.topology.geoms
      → All (λ (g : Geom C). is_granted_kind g.kind ≡ true → (g.number ≡ 1) ⊎ (g.number ≡ 2)) u.geoms
  kinds_stay all =
      all_of (λ (g : Geom C). is_granted_kind g.kind ≡ true → (g.number ≡ 1) ⊎ (g.number ≡ 2)) u.geoms
      (λ g there.
      let was : Contains (map geom_seen t.topology.geoms) (geom_seen g) =
      subst (λ (s : Seen). Contains s.geoms (geom_seen g)) same (Contains-map geom_seen u.geoms g there) in
      let from = map-Contains geom_seen t.topology.geoms (geom_seen g) was in
      subst (λ (x : ℕ × Kind). is_granted_kind x.1 ≡ true → (x.0 ≡ 1) ⊎ (x.0 ≡ 2)) from.fact
      (All-contains (λ (h : Geom C). is_granted_kind h.kind ≡ true → (h.number ≡ 1) ⊎ (h.number ≡ 2))
      t.topology.geoms from.item all from.stands))

  -- nothing is left to try
  clear_stays : clear_scratches u ≡ clear_scratches t.topology
  clear_stays =
      search (rules, geom_rows (λ n. no_scratch), provider_rows (λ n. no_scratch), consumer_rows (λ n g. no_scratch))

  -- all stored counts are what the model sums up
  counted_stays : IsCounted t → IsCounted other
  counted_stays counted =
      let first : DemandStays (granted_by t) t.topology (granted_by t) u AnyConsumer =
      seen_stays (granted_by t) t.topology u (sym same) in
      let second : DemandStays (granted_by t) u (granted_by other) u (Contains u.consumers) =
      grants_agree (granted_by t) (granted_by other) u
      (all_of (λ (c : Consumer). granted_by other c.number ≡ granted_by t c.number) u.consumers
      (λ c there. grants_stay c.number)) in
      search (
        rules,
        kinds_stay counted.kinds,
        provider_rows (have (granted_by t) t.topology),
        rows-same_on (λ (z : Provider). z.number) (have (granted_by t) t.topology) (have (granted_by other) u)
            u.providers (λ z there. sym (second.haves z.number ∙ first.haves z.number)),
        stores_stay (granted_by t) counted.wants,
        rows_agree (λ (c : Consumer). c.number) (want (granted_by t) u) (want (granted_by other) u) u.consumers
            (λ c there. sym (second.wants c there)),
        second.exclusive (first.exclusive counted.exclusive),
        first.exclusive counted.exclusive,
        second.limit (first.limit counted.limit),
        first.limit counted.limit,
        provider_keys,
        clear_stays,
      )

  -- all that counts keep
  pub unseen_stays : CountsStay t other
  unseen_stays = search (rules, grants_stay, stores_stay, counted_stays, provider_rows (λ n. false))

-- What this crate does

module _ {C : Type 0} where
  -- an error
  seen_error : (t : Topology C) (p : ℕ) → seen_by_counts (set_error t p) ≡ seen_by_counts t
  seen_error t p =
      ap (λ ps. record (seen_by_counts t) { providers = ps })
      (map-changed (λ (x : Provider). x.number == p) (λ x. record x { errored = true })
      (λ (x : Provider). (x.number, x.geom)) (λ x hit. refl) t.providers)

  -- a geom that withers
  seen_withering : (t : Topology C) (g : ℕ) → seen_by_counts (set_withering t g) ≡ seen_by_counts t
  seen_withering t g =
      ap (λ gs. record (seen_by_counts t) { geoms = gs })
      (map-changed (λ (x : Geom C). x.number == g) (λ x. record x { withering = true })
      (λ (x : Geom C). (x.number, x.kind)) (λ x hit. refl) t.geoms)

  -- marks
  pub seen_marks : (t : Topology C) (test : Consumer → Bool) (mark : Bool)
      → seen_by_counts (set_marks t test mark) ≡ seen_by_counts t
  seen_marks t test mark =
      ap (λ cs. record (seen_by_counts t) { consumers = cs })
      (map-changed test (λ x. record x { spoiled = mark })
      (λ (x : Consumer). (x.number, x.geom, x.provider)) (λ x hit. refl) t.consumers)

  -- a geom that withers, with its providers
  pub seen_wither : (q : QueuedTopology C) (g : ℕ) → seen_by_counts (wither q g).topology ≡ seen_by_counts q.topology
  seen_wither = wither_leaves seen_by_counts seen_error seen_withering

  -- a spoil
  pub seen_spoil : (q : QueuedTopology C) (p : ℕ) → seen_by_counts (spoil q p).topology ≡ seen_by_counts q.topology
  seen_spoil q p =
      fold_leaves (λ (r : QueuedTopology C). seen_by_counts r.topology) spoil_consumer
      (λ r c.
      unless_leaves seen_by_counts seen_error seen_withering
      (record r { topology = set_marks r.topology (λ x. x.number == c.number) false }) c.geom
      ∙ seen_marks r.topology (λ x. x.number == c.number) false)
      (filter (λ c. c.spoiled) (attached_to q.topology p)) q

  -- an orphan
  pub seen_orphan : (q : QueuedTopology C) (p : ℕ) → seen_by_counts (orphan q p).topology ≡ seen_by_counts q.topology
  seen_orphan q p =
      fold_leaves (λ (r : QueuedTopology C). seen_by_counts r.topology) orphan_consumer
      (orphan_leaves seen_by_counts seen_error seen_withering) (attached_to q.topology p) q

  -- what was done where a geom may wither
  pub seen_if : (b : Bool) (q new : QueuedTopology C) (g : ℕ) → new ≡ (if b then wither q g else q)
      → seen_by_counts new.topology ≡ seen_by_counts q.topology
  seen_if = if_leaves seen_by_counts seen_error seen_withering

  -- a change of the graph alone that isn't seen leaves all that counts keep
  pub mesh_kept : (t new : TopoView C) → new ≡ with_topology t new.topology
      → seen_by_counts new.topology ≡ seen_by_counts t.topology → CountsStay t new
  mesh_kept t new mesh same = subst (CountsStay t) (sym mesh) (unseen_stays t new.topology same)

  -- the same of what the model says
  pub seen_kept : (t : TopoView C) (q : Queued) (new : TopoView C) (queue : Queued) (after : QueuedTopology C)
      → RestStays t q new queue
      → queued new queue ≡ after → seen_by_counts after.topology ≡ seen_by_counts t.topology → CountsStay t new
  seen_kept t q new queue after rest is same =
      mesh_kept t new rest.mesh (ap (λ (r : QueuedTopology C). seen_by_counts r.topology) is ∙ same)
