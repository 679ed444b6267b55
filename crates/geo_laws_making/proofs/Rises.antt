-- What an append that isn't refused does to wants, counts and ranks; and what it leaves, where nothing is above
-- the concat.
use Rattle.std.specs.Prelude.{◌≡◌, ◌≢◌, ◌⊎◌, ℕ, ◌≤◌, ◌==◌, Bool, true, false, ◌&&◌, List, [], ◌∷◌, length, Some, None, Contains, IsSome, IsSomeAnd, IsTrue}
use Rattle.std.specs.List.{list_any}
use Rattle.std.proofs.Common.{inl, inr, refl, sym, ◌∙◌, ap, subst}
use Rattle.std.proofs.lemmas.Bool.{and_from, eqb-true, eq-eqb, false_from_ne_true}
use Rattle.std.proofs.lemmas.List.Elements.{All-contains}
use Rattle.geo_base.proofs.FindLists.{some-passes}
use Rattle.geo_base.proofs.MemberLists.{one_only}
use Rattle.geo_model.specs.Topology.{Topology, Geom, Provider, Consumer, geom_at, provider_at, providers_of, is_errored, is_withering, add_consumer, attach}
use Rattle.geo_model.specs.Rank.{rank, reaches, would_loop}
use Rattle.geo_model.specs.Opens.{below, is_below}
use Rattle.geo_model.specs.Demand.{have, want, is_zero}
use Rattle.geo_model.specs.World.{World, Config, granted_in}
use Rattle.geo_model.specs.Append.{Growing, component_refusal}
use Rattle.geo_model.specs.Graph.{IsInOrder, PartsLive}
use Rattle.geo_model.specs.Fitting.{Firm}
use Rattle.geo_base.specs.declared.kind.Kind.TheVariants as kinds
use Rattle.geo_model.proofs.FirmLemmas.{sound_of, steady_of}
use Rattle.geo_laws_graph.proofs.Members.{has, find-Contains, Contains-filter}
use Rattle.geo_laws_graph.proofs.Numbered.{any-contained, number_found}
use Rattle.geo_laws_graph.proofs.Found.{added-consumer}
use Rattle.geo_laws_graph.proofs.Living.{sound-order, steady-parts, add_consumer-geoms}
use Rattle.geo_laws_graph.proofs.TwoChanges.{two-changes}
use Rattle.geo_laws_graph.specs.Edges.{IsPath}
use Rattle.geo_laws_graph.proofs.Paths.{path-from_reaches}
use Rattle.geo_laws_graph.specs.Attach.{CanAttach}
use Rattle.geo_laws_graph.proofs.RankChanges.{adding-stay, attach-rises}
use Rattle.geo_laws_counts.specs.CountWords.{IsAtMost, DemandStays, AnyConsumer}
use Rattle.geo_laws_counts.proofs.Stays.{consumer_came}
use Rattle.geo_laws_counts.proofs.Reach.{below_self, below_closed}
use Rattle.geo_laws_growth.specs.JoinLaws.{Joins, IsJoined}
use Rattle.geo_laws_growth.specs.GrowthLaws.{grown}
use Rattle.geo_laws_growth.proofs.Joining.{joining_raises}
use Rattle.geo_laws_growth.proofs.JoiningBelow.{joining_changes_below}
use Rattle.geo_laws_growth.proofs.JoiningAllowed.{joins_are_allowed}
use Rattle.geo_laws_growth.proofs.Grown.{growth_is_not_seen}
use Rattle.geo_laws_growth.proofs.Appended.{appends_hold}
use Rattle.geo_laws_life.proofs.Found.{some-with, some-there}
use Rattle.geo_laws_making.proofs.Over.{false_true}
use Rattle.geo_laws_making.proofs.Made.{through}
use Rattle.geo_laws_making.proofs.Concats.{IsStanding}

module _ (w : World) (x : Growing) (firm : Firm w) (is : IsStanding w.topology x) where
  -- the graph before
  abbrev t : Topology Config
  t = w.topology

  -- it stood in order
  pub order : IsInOrder t
  order = sound-order w firm.graph.numbers

  -- and what its parts named lived
  pub live : PartsLive t
  live = steady-parts t firm.graph.parts firm.graph.attached

  -- the geom is one of the list
  pub geom_here : Contains t.geoms x.geom
  geom_here = find-Contains (λ (z : Geom Config). z.number == x.geom.number) t.geoms x.geom is.found.geom

  -- so is its provider
  pub provider_here : Contains t.providers x.provider
  provider_here = find-Contains (λ (z : Provider). z.number == x.provider.number) t.providers x.provider
      is.found.provider

  -- which is one of the geom's
  pub provider_own : Contains (providers_of t x.geom.number) x.provider
  provider_own =
      Contains-filter (λ (z : Provider). z.geom == x.geom.number) t.providers x.provider provider_here
      (eq-eqb x.provider.geom x.geom.number is.found.own)

  -- and no other is
  pub own_only : (y : Provider) → Contains t.providers y → y.geom ≡ x.geom.number → y ≡ x.provider
  own_only y here own =
      one_only (providers_of t x.geom.number) y x.provider
      (All-contains (λ (z : Geom Config). z.kind ≡ kinds.Concat → length (providers_of t z.number) ≤ 1) t.geoms
      x.geom
      firm.sizes.one geom_here is.kind)
      (Contains-filter (λ (z : Provider). z.geom == x.geom.number) t.providers y here
      (eq-eqb y.geom x.geom.number own))
      provider_own

  -- What is above the concat

  -- a provider that is reached, of the geom at the end
  record Reached (s m : ℕ) : Type 0 where
    end : Provider
    reached : Contains (below t s) end.number
    stands : provider_at t end.number ≡ Some end
    own : end.geom ≡ m

  -- a way down from the geom of a provider that is reached leads to one that is
  way_down : (s m g : ℕ) (over : List ℕ) (y : Provider) → Contains (below t s) y.number → provider_at t y.number
      ≡ Some y
      → y.geom ≡ g → IsPath t g over m → Reached s m
  way_down s m g [] y reached stands own path =
      record { end = y; reached = reached; stands = stands; own = own ∙ path }
  way_down s m g (k ∷ over) y reached stands own path =
      let b = path.0 in
      let r = through (provider_at t) b.consumer.provider b.provider b.attached in
      let number : b.provider.number ≡ r.first =
      number_found (λ (z : Provider). z.number) t.providers r.first b.provider r.then in
      let next : Contains (below t s) r.first =
      below_closed t firm.graph.ranks.ranked s y.number r.first b.consumer b.stands r.is
      (some-with (provider_at t y.number) (λ z. z.geom ≡ b.consumer.geom) y stands (own ∙ sym b.above)) reached in
      way_down s m k over b.provider (subst (Contains (below t s)) (sym number) next)
      (subst (λ z. provider_at t z ≡ Some b.provider) (sym number) r.then) b.below path.1

  -- what is below something is so told
  below_told : (s r : ℕ) → Contains (below t s) r → is_below t r s ≡ true
  below_told s r here = any-contained (λ z. z == r) (below t s) r here (eq-eqb r r refl)

  -- where the concat isn't below a provider, that one's geom doesn't reach it, and is another one
  pub record IsApart (s : ℕ) (y : Provider) : Type 0 where
    pub number : s ≢ x.provider.number
    pub geom : y.geom ≢ x.geom.number
    pub unreached : reaches t y.geom x.geom.number ≡ false

  -- so it is
  pub apart_from : (s : ℕ) (y : Provider) → provider_at t s ≡ Some y → is_below t x.provider.number s ≡ false
      → IsApart s y
  apart_from s y found away = record {
    number = λ same.
        no (subst (Contains (below t s)) same (below_self (length t.geoms) t s));
    geom = λ own.
        let one = own_only y (find-Contains (λ (z : Provider). z.number == s) t.providers y found) own in
        no (subst (Contains (below t s)) (sym at ∙ ap (λ (z : Provider). z.number) one)
        (below_self (length t.geoms) t s));
    unreached = false_from_ne_true (reaches t y.geom x.geom.number) (λ reaching.
        let way = path-from_reaches t y.geom x.geom.number reaching in
        let r = way_down s x.geom.number y.geom way.over y
        (subst (Contains (below t s)) (sym at) (below_self (length t.geoms) t s))
        (subst (λ m. provider_at t m ≡ Some y) (sym at) found) refl way.is in
        let one = own_only r.end (find-Contains (λ (z : Provider). z.number == r.end.number) t.providers r.end
        r.stands)
        r.own in
        no (subst (Contains (below t s)) (ap (λ (z : Provider). z.number) one) r.reached));
  }
    where
      -- it has that number
      at : y.number ≡ s
      at = number_found (λ (z : Provider). z.number) t.providers s y found

      -- the concat's provider isn't below
      no : Contains (below t s) x.provider.number → ⊥
      no here = false_true (sym away ∙ below_told s x.provider.number here)

  module _ (q : Provider) (there : provider_at t q.number ≡ Some q) (none : component_refusal w x q ≡ None) where
    -- the graph with the new consumer, not yet attached
    abbrev bare : Topology Config
    bare = add_consumer t x.geom.number None

    -- with it attached
    abbrev added : Topology Config
    added = add_consumer t x.geom.number (Some q.number)

    -- and in the end
    abbrev u : Topology Config
    u = grown w x q

    -- nothing is against the consumer
    allowed : IsJoined (granted_in w) bare t.next_consumer q.number
    allowed = (joins_are_allowed.refusal (granted_in w) bare t.next_consumer q.number).0 none

    -- so it joins
    joins : Joins bare t.next_consumer q.number
    joins = appends_hold.joins w x q (sound_of w firm) (steady_of w firm) is.found there none

    -- once it is attached it is as if it were made so
    made : attach bare t.next_consumer q.number ≡ added
    made = two-changes.made t x.geom.number q.number order

    -- without being attached it changes nothing
    first : DemandStays (granted_in w) t (granted_in w) bare AnyConsumer
    first = consumer_came (granted_in w) t x.geom.number None (λ some. false_true some)

    -- no want falls
    pub wants_more : (d : Consumer) → IsAtMost (want (granted_in w) t d) (want (granted_in w) u d)
    wants_more d =
        subst (λ a. IsAtMost a (want (granted_in w) u d)) (first.wants d tt)
        (subst (IsAtMost (want (granted_in w) bare d))
        (ap (λ (z : Topology Config). want (granted_in w) z d) made
        ∙ sym ((growth_is_not_seen.counts w x q (granted_in w)).wants d tt))
        (joining_raises.wants (granted_in w) bare t.next_consumer q.number joins d))

    -- what isn't reached keeps its counts
    same_away : (r : ℕ) → (Contains (below bare q.number) r → ⊥) → have (granted_in w) u r ≡ have (granted_in w) t r
    same_away r away =
        (growth_is_not_seen.counts w x q (granted_in w)).haves r
        ∙ sym (ap (λ (z : Topology Config). have (granted_in w) z r) made)
        ∙ (joining_changes_below.around (granted_in w) bare t.next_consumer q.number joins).haves r away
        ∙ first.haves r

    -- what is reached carries no error, so its geom doesn't wither
    upright_below : (y : Provider) → Contains t.providers y → Contains (below bare q.number) y.number
        → IsSomeAnd (geom_at t y.geom) (λ h. h.withering ≡ false)
    upright_below y here reached =
        let h = has (geom_at t y.geom) (All-contains (λ (z : Provider). IsSome (geom_at t z.geom)) t.providers y
        firm.graph.parts.providers here) in
        some-with (geom_at t y.geom) (λ h. h.withering ≡ false) h.item h.is
        (false_from_ne_true h.item.withering (λ withers.
        let geom_withers : is_withering t y.geom ≡ true =
        any-contained (λ (z : Geom Config). (z.number == y.geom) && z.withering) t.geoms h.item
        (find-Contains (λ (z : Geom Config). z.number == y.geom) t.geoms h.item h.is)
        (and_from (h.item.number == y.geom) h.item.withering
        (eq-eqb h.item.number y.geom (number_found (λ (z : Geom Config). z.number) t.geoms y.geom h.item h.is))
        withers) in
        let errored : y.errored ≡ true =
        All-contains (λ (z : Provider). IsTrue (is_withering t z.geom) → z.errored ≡ true) t.providers y
        firm.graph.providers.withering here geom_withers in
        let told : is_errored bare y.number ≡ true =
        any-contained (λ (z : Provider). (z.number == y.number) && z.errored) t.providers y here
        (and_from (y.number == y.number) y.errored (eq-eqb y.number y.number refl) errored) in
        false_true (sym allowed.errors ∙ any-contained (is_errored bare) (below bare q.number) y.number reached
        told)))

    -- what comes to be open is of a geom that doesn't wither
    pub opened_upright : (y : Provider) → Contains t.providers y → is_zero (have (granted_in w) u y.number) ≡ false
        → (is_zero (have (granted_in w) t y.number) ≡ false)
        ⊎ IsSomeAnd (geom_at t y.geom) (λ h. h.withering ≡ false)
    opened_upright y here opened = by (list_any (λ r. r == y.number) (below bare q.number)) refl where
      -- by whether it is reached
      by : (b : Bool) → list_any (λ r. r == y.number) (below bare q.number) ≡ b
          → (is_zero (have (granted_in w) t y.number) ≡ false)
          ⊎ IsSomeAnd (geom_at t y.geom) (λ h. h.withering ≡ false)
      by true e =
          let r = some-passes (λ r. r == y.number) (below bare q.number) e in
          inr (upright_below y here (subst (Contains (below bare q.number)) (eqb-true r.item y.number r.passes)
          r.here))
      by false e =
          inl (sym (ap is_zero (same_away y.number (λ reached.
          false_true (sym e ∙ any-contained (λ r. r == y.number) (below bare q.number) y.number reached
          (eq-eqb y.number y.number refl))))) ∙ opened)

    -- the geom is there
    geom_there : IsSome (geom_at t x.geom.number)
    geom_there = some-there (geom_at t x.geom.number) x.geom is.found.geom

    -- the new consumer can be attached
    can : CanAttach bare t.next_consumer q.number
    can = record {
      consumer = record { number = t.next_consumer; geom = x.geom.number; provider = None; spoiled = false };
      stands = added-consumer.new t x.geom.number None order;
      free = refl;
      provider = q;
      offers = there;
    }

    -- it makes no loop
    no_loop : reaches bare q.geom x.geom.number ≡ false
    unfolding can
    no_loop =
        sym (ap (λ o. would_loop bare o (provider_at bare q.number)) can.stands
        ∙ ap (λ o. would_loop bare (Some can.consumer) o) there) ∙ allowed.loop

    -- the rank of a geom that doesn't reach the concat stays
    pub rank_away : (h : ℕ) → reaches t h x.geom.number ≡ false → rank u h ≡ rank t h
    unfolding can
    rank_away h away =
        let stay = adding-stay.consumer t x.geom.number firm.graph.ranks.ranked live.geoms geom_there in
        let rises = attach-rises bare t.next_consumer q.number can stay.ranked
        (add_consumer-geoms t x.geom.number None geom_there live.geoms)
        (added-consumer.order t x.geom.number None order)
        no_loop in
        (growth_is_not_seen.ranks w x q).same h
        ∙ sym (ap (λ (z : Topology Config). rank z h) made)
        ∙ rises.elsewhere h (stay.reached h x.geom.number ∙ away)
        ∙ stay.same h
