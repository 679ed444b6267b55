-- A consumer of DEV that is idle goes, and its handle has none or goes too: a firm world stays firm.
use Rattle.std.specs.Prelude.{◌≡◌, ◌≢◌, ◌⊎◌, ℕ, ◌<◌, ◌≤◌, ◌==◌, true, false, not, ◌&&◌, List, map, find, count_by, Option, Some, All, Contains, IsSomeAnd, IsTrue, MatchOption, if◌then◌else◌}
use Rattle.std.specs.Option.{option_map_or}
use Rattle.std.proofs.Common.{inl, inr, refl, sym, ◌∙◌, ap, subst, arith}
use Rattle.std.proofs.lemmas.Bool.{eq-eqb, ne_eqb}
use Rattle.std.proofs.lemmas.List.Elements.{All-contains}
use Rattle.geo_base.specs.declared.request.Counts.{Counts}
use Rattle.geo_model.specs.declared.step.Owner.{Owner}
use Rattle.geo_model.specs.declared.step.Owner.TheVariants as owners
use Rattle.geo_model.specs.Words.{names_number, is_read}
use Rattle.geo_model.specs.Topology.{Topology, Consumer, consumer_at, consumers_of, remove_consumer}
use Rattle.geo_model.specs.Rank.{rank}
use Rattle.geo_model.specs.Demand.{have, want, is_zero, no_counts}
use Rattle.geo_model.specs.World.{World, Config, Handle, Bio, granted_in, taste_grant, is_active, is_root, is_done}
use Rattle.geo_model.specs.Graph.{AreNumbers, IsInOrder}
use Rattle.geo_model.specs.Sound.{IsHandleConsumer, HasItsConsumer}
use Rattle.geo_model.specs.SoundBios.{IsBioInOrder, IsFamilyInOrder, HasCountFor}
use Rattle.geo_model.specs.Steady.{ComesFromItsOwner}
use Rattle.geo_model.specs.Fitting.{Firm}
use Rattle.geo_laws_graph.proofs.Members.{find-Contains, filter-Contains}
use Rattle.geo_laws_graph.proofs.Lists.{found_itself}
use Rattle.geo_laws_graph.proofs.Numbered.{number_found, any-contained}
use Rattle.geo_laws_graph.proofs.Found.{removed-consumer}
use Rattle.geo_laws_graph.proofs.Living.{sound-order, remove_consumer-geoms, remove_consumer-providers}
use Rattle.geo_laws_graph.proofs.EdgeRanks.{ranked-live, fewer-edges}
use Rattle.geo_laws_graph.proofs.Attaching.{removed-edges}
use Rattle.geo_laws_graph.proofs.Holding.{sound-ranks}
use Rattle.geo_laws_counts.specs.CountWords.{IsAtMost, AgreeExcept, HoldsGrants, IsOnlyOne, DemandStays}
use Rattle.geo_laws_counts.proofs.Sums.{at_most-under, zero-test}
use Rattle.geo_laws_counts.proofs.Numbers.{number_is_only}
use Rattle.geo_laws_counts.proofs.LimitFacts.{all_of}
use Rattle.geo_laws_counts.proofs.Openers.{wants_grant, went_quietly, went_less, went_exclusive, went_limit}
use Rattle.geo_laws_bios.specs.PieceLaws.{Serves, SourceServes}
use Rattle.geo_laws_bios.proofs.Serving.{all_serve}
use Rattle.geo_laws_life.proofs.Found.{found-with, at-some, some-with, one-found, passes_apart}
use Rattle.geo_laws_life.proofs.LessBios.{no_count}
use Rattle.geo_laws_life.proofs.Bare.{holds_grants, of_taste}
use Rattle.geo_laws_life.proofs.Frames.{Frame, went, tasting_stays, taste-still, framed-firm}

-- the handles of a world where the consumer of a number has gone: all other consumers have the handles that they
-- had, each handle has its consumer, and a line's handle has the consumer that it had
pub record AreReleased (w : World) (n : ℕ) (hs : List Handle) : Type 0 where
  pub numbers : AreNumbers (map (λ h. h.number) hs) w.next_handle
  pub found : (d : ℕ) → d ≢ n → find (λ h. names_number h.consumer d) hs
      ≡ find (λ h. names_number h.consumer d) w.handles
  pub count : (d : ℕ) → d ≢ n → count_by (λ h. names_number h.consumer d) hs
      ≡ count_by (λ h. names_number h.consumer d) w.handles
  pub each : All (HasItsConsumer (remove_consumer w.topology n)) hs
  pub of_line : (handle source : ℕ) → source ≢ n
      → IsSomeAnd (find (λ h. h.number == handle) w.handles) (λ h. h.consumer ≡ Some source)
      → IsSomeAnd (find (λ h. h.number == handle) hs) (λ h. h.consumer ≡ Some source)

module _ (w : World) (firm : Firm w) (d : Consumer) (here : Contains w.topology.consumers d) (dev : d.geom ≡ 1)
    (hs : List Handle) (released : AreReleased w d.number hs) where
  -- the graph before
  abbrev t : Topology Config
  t = w.topology

  -- the graph without the consumer
  abbrev u : Topology Config
  u = remove_consumer t d.number

  -- the world without it
  abbrev pub without : World
  without = record w { topology = u; handles = hs }

  -- the graph stands in order
  order : IsInOrder t
  order = sound-order w firm.graph.numbers

  -- the consumer is found
  found_it : consumer_at t d.number ≡ Some d
  found_it = found_itself (λ (x : Consumer). x.number) t.next_consumer t.consumers d order.consumers here

  -- Counts

  -- the other grants stay
  agree : AgreeExcept d.number (granted_in w) (granted_in without)
  agree n apart = ap (λ (o : Option Handle). option_map_or (λ (h : Handle). h.grant) o (taste_grant w.taste n))
      (released.found n apart)

  -- no other consumer has its number
  only : IsOnlyOne t d
  only = number_is_only t order.consumers.0 d here

  -- it holds its grant
  holds : HoldsGrants t d.geom
  holds = holds_grants w firm d.geom (inl dev)

  -- no count rises
  less : (q : ℕ) → IsAtMost (have (granted_in without) u q) (have (granted_in w) t q)
  less = went_less (granted_in w) (granted_in without) t d only holds agree

  -- a provider that had no count has none
  closed : (p : ℕ) → is_zero (have (granted_in w) t p) ≡ true → is_zero (have (granted_in without) u p) ≡ true
  closed p zero = ap is_zero (at_most-under (have (granted_in without) u p) (have (granted_in w) t p) (less p)
      (zero-test (have (granted_in w) t p) zero))

  -- one consumer of DEV goes
  frame : Frame t u 1
  frame = went t order 1 d here dev

  -- Handles

  -- each other consumer of DEV is that of one handle
  one_each : (c : Consumer) → Contains (consumers_of u 1) c → IsHandleConsumer hs c
  one_each c c_here =
      let kept = filter-Contains (λ (x : Consumer). not (x.number == d.number)) (consumers_of t 1) c
      (subst (λ cs. Contains cs c) (removed-consumer.of t d.number 1) c_here) in
      let old : IsHandleConsumer w.handles c =
      All-contains (IsHandleConsumer w.handles) (consumers_of t 1) c firm.handles.consumers kept.0 in
      record {
        attached = old.attached;
        one_handle = released.count c.number (passes_apart c.number d.number kept.1) ∙ old.one_handle;
      }

  -- Ranks and the taste

  -- no rank rises
  lower : (g : ℕ) → rank u g ≤ rank t g
  lower = (fewer-edges t u firm.graph.ranks.ranked (remove_consumer-geoms t d.number firm.graph.parts.consumers)
      (remove_consumer-providers t d.number (ranked-live t firm.graph.ranks.ranked)) (removed-edges t d.number)).1

  -- Bios

  module _ (idle : is_active w d.number ≡ false) where
    -- a root isn't from it
    root_apart : (z : Bio) → Contains w.bios z → is_root z.owner ≡ true → z.source ≢ d.number
    root_apart z z_here root same =
        let family : IsFamilyInOrder t w.bios z =
        All-contains (IsFamilyInOrder t w.bios) w.bios z firm.bios.families z_here in
        let out : is_done z.phase ≡ false = family.root root in
        let from : (z.source == d.number) ≡ true = eq-eqb z.source d.number same in
        let acts : ((z.source == d.number) && not (is_done z.phase)) ≡ true = rw (from, out) refl in
        let some : is_active w d.number ≡ true =
        any-contained (λ (x : Bio). (x.source == d.number) && not (is_done x.phase)) w.bios z z_here acts in
        let no : true ≡ false = sym some ∙ idle in
        absurd (let bad : ⊥ = cc in bad)

    -- the grants without that of the consumer
    abbrev but_it : ℕ → Counts
    but_it n = if n == d.number then no_counts else granted_in without n

    -- it has none by them
    none_for_it : but_it d.number ≡ no_counts
    none_for_it = rw (eq-eqb d.number d.number refl) refl

    -- all others have theirs
    others_agree : AgreeExcept d.number but_it (granted_in without)
    others_agree n apart = rw (ne_eqb n d.number apart) refl

    -- so by them it goes without notice
    quiet : DemandStays but_it t (granted_in without) u (Contains u.consumers)
    quiet = went_quietly but_it (granted_in without) t d only holds others_agree none_for_it

    -- a consumer that holds its grant serves by them as before
    serves_so : (z : Bio) (c : Consumer) → HoldsGrants t c.geom → c.number ≢ d.number
        → HasCountFor (granted_in w) t z c → Serves but_it t z c
    serves_so z c held apart counts =
        let same : want but_it t c ≡ want (granted_in w) t c =
        wants_grant but_it t c held ∙ sym (others_agree c.number apart) ∙ agree c.number apart
        ∙ sym (wants_grant (granted_in w) t c held) in
        subst (λ a. (IsTrue (is_read z.cmd) → 0 < a.r) × (is_read z.cmd ≡ false → 0 < a.w)) (sym same) counts

    -- the source of a root is of DEV or TASTE
    source_of : (z : Bio) (c : Consumer) → consumer_at t z.source ≡ Some c → (o : Owner) → is_root o ≡ true
        → ComesFromItsOwner w.handles w.taste z o → (c.geom ≡ 1) ⊎ (c.geom ≡ 2)
    source_of z c e (owners.Line handle line) root comes =
        let h = found-with (find (λ (h : Handle). h.number == handle) w.handles) (λ h. h.consumer ≡ Some z.source)
        comes in
        let its : HasItsConsumer t h.item =
        All-contains (HasItsConsumer t) w.handles h.item firm.handles.handles
        (find-Contains (λ (h : Handle). h.number == handle) w.handles h.item h.is) in
        let at : IsSomeAnd (consumer_at t z.source) (λ x. x.geom ≡ 1) =
        subst (λ o. MatchOption o (h.item.dead ≡ true) (λ n. IsSomeAnd (consumer_at t n) (λ x. x.geom ≡ 1)))
        h.fact its in
        inl (subst (λ o. IsSomeAnd o (λ (x : Consumer). x.geom ≡ 1)) e at)
    source_of z c e owners.Taste root comes =
        let s = found-with w.taste (λ s. (s.consumer ≡ z.source) × (s.provider ≡ z.target)) comes in
        inr (of_taste w firm s.item s.is c (subst (λ n. consumer_at t n ≡ Some c) (sym s.fact.0) e))
    source_of z c e (owners.Child parent index) root comes = absurd (let bad : ⊥ = cc in bad)

    -- so the sources of roots serve
    root_serves : (z : Bio) → Contains w.bios z → is_root z.owner ≡ true → true ≡ true → SourceServes but_it t z
    root_serves z z_here root kept =
        let old : IsBioInOrder (granted_in w) t z =
        All-contains (IsBioInOrder (granted_in w) t) w.bios z firm.bios.order z_here in
        let c = found-with (consumer_at t z.source)
        (λ c. (c.provider ≡ Some z.target) × HasCountFor (granted_in w) t z c) old.source in
        let number : c.item.number ≡ z.source =
        number_found (λ (x : Consumer). x.number) t.consumers z.source c.item c.is in
        let comes = All-contains (λ (x : Bio). ComesFromItsOwner w.handles w.taste x x.owner) w.bios z
        firm.bios.owners z_here in
        some-with (consumer_at t z.source) (λ c. (c.provider ≡ Some z.target) × Serves but_it t z c) c.item c.is (
          c.fact.0,
          serves_so z c.item (holds_grants w firm c.item.geom (source_of z c.item c.is z.owner root comes))
              (λ same. root_apart z z_here root (sym number ∙ same)) c.fact.1,
        )

    -- and so do those of all
    serves : (z : Bio) → Contains w.bios z → SourceServes but_it t z
    serves z z_here = all_serve w firm but_it (λ x. true) root_serves (λ x x_here waits. refl) z z_here refl

    -- whoever serves isn't the one that goes
    server_apart : (z : Bio) (c : Consumer) → consumer_at t z.source ≡ Some c → Serves but_it t z c
        → z.source ≢ d.number
    server_apart z c e counts same =
        let there : consumer_at t d.number ≡ Some c = subst (λ n. consumer_at t n ≡ Some c) same e in
        let one : d ≡ c = one-found (consumer_at t d.number) d c found_it there in
        let none : want but_it t c ≡ no_counts =
        subst (λ x. want but_it t x ≡ no_counts) one (wants_grant but_it t d holds ∙ none_for_it) in
        no_count (is_read z.cmd) (want but_it t c).r (want but_it t c).w (ap (λ a. a.r) none) (ap (λ a. a.w) none)
        counts

    -- so no bio is from the one that goes
    pub no_source : (z : Bio) → Contains w.bios z → z.source ≢ d.number
    no_source z z_here =
        let c = found-with (consumer_at t z.source) (λ c. (c.provider ≡ Some z.target) × Serves but_it t z c)
        (serves z z_here) in
        server_apart z c.item c.is c.fact.1

    -- so each source is found, and serves
    source_serves : (z : Bio) → Contains w.bios z → (c : Consumer) → consumer_at t z.source ≡ Some c
        → (consumer_at u z.source ≡ Some c) × HasCountFor (granted_in without) u z c
    source_serves z z_here c e =
        let serving : Serves but_it t z c =
        (at-some (consumer_at t z.source) (λ c. (c.provider ≡ Some z.target) × Serves but_it t z c) c e
        (serves z z_here)).1 in
        let found : consumer_at u z.source ≡ Some c =
        removed-consumer.others t d.number z.source (server_apart z c e serving) ∙ e in
        let same : want (granted_in without) u c ≡ want but_it t c =
        quiet.wants c (find-Contains (λ (x : Consumer). x.number == z.source) u.consumers c found) in (
          found,
          subst (λ a. (IsTrue (is_read z.cmd) → 0 < a.r) × (is_read z.cmd ≡ false → 0 < a.w)) (sym same) serving,
        )

    -- it comes from its owner
    comes_by : (z : Bio) → Contains w.bios z → (o : Owner) → z.owner ≡ o → ComesFromItsOwner w.handles w.taste z o
        → ComesFromItsOwner hs w.taste z o
    comes_by z z_here (owners.Line handle line) is fact =
        released.of_line handle z.source (root_apart z z_here (rw is refl)) fact
    comes_by z z_here owners.Taste is fact = fact
    comes_by z z_here (owners.Child parent index) is fact = fact

    -- so the world is firm
    pub without-firm : Firm without
    without-firm = framed-firm w firm without 1 (inl refl) frame (record {
      ranks = sound-ranks.consumer_removed t d.number firm.graph.ranks firm.graph.parts.consumers;
      counts = record {
        exclusive = went_exclusive (granted_in w) (granted_in without) t d only holds agree
            firm.demand.counts.exclusive;
        limited = went_limit (granted_in w) (granted_in without) t d only holds agree firm.demand.counts.limited;
      };
      closed = λ p g p_here of withers. closed p.number;
      handles = record {
        numbers = released.numbers;
        consumers = all_of (IsHandleConsumer hs) (consumers_of u 1) one_each;
        handles = released.each;
        taste = tasting_stays t u (frame.others 2 (λ e. absurd (omega (arith, e)))) w.taste firm.handles.taste;
      };
      sources = λ z z_here c e counts. source_serves z z_here c e;
      owners = λ z z_here. comes_by z z_here z.owner refl;
      read_out = firm.bios.read_out;
      taste = taste-still w firm without 1 (inl refl) frame (λ g other. lower g) w.taste firm.taste.order;
      asked = firm.taste.asked;
    })
