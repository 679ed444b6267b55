-- A provider is opened: its new handle has a consumer of DEV there, and a firm world stays firm.
use Rattle.std.specs.Prelude.{◌≡◌, ◌≢◌, ℕ, ◌<◌, ◌==◌, Bool, true, false, ◌&&◌, List, [], ◌∷◌, ◌++◌, length, find, count_by, Option, Some, None, All, Contains, IsSome, IsTrue}
use Rattle.std.specs.Option.{option_map_or}
use Rattle.std.proofs.Common.{inl, refl, sym, ◌∙◌, ap, subst, arith}
use Rattle.std.proofs.lemmas.Bool.{eq-eqb, ne_eqb}
use Rattle.std.proofs.lemmas.List.Elements.{All-contains, All-weaker, All-push}
use Rattle.std.proofs.lemmas.List.Sums.{length-filter}
use Rattle.geo_base.proofs.FindLists.{none_passes}
use Rattle.geo_base.specs.declared.request.Counts.{Counts}
use Rattle.geo_model.specs.declared.step.Owner.{Owner}
use Rattle.geo_model.specs.declared.step.Owner.TheVariants as owners
use Rattle.geo_model.specs.Words.{names_number, is_read}
use Rattle.geo_model.specs.Topology.{Topology, Geom, Provider, Consumer, geom_at, provider_at, consumer_at, consumers_of, is_errored, is_withering, add_consumer}
use Rattle.geo_model.specs.Rank.{rank}
use Rattle.geo_model.specs.Demand.{have, want, is_zero, add_counts}
use Rattle.geo_model.specs.Opens.{below, has_error_below, with_opener}
use Rattle.geo_model.specs.World.{World, Config, Handle, Bio, granted_in, taste_grant}
use Rattle.geo_model.specs.HandleCommands.{with_handle}
use Rattle.geo_model.specs.Graph.{IsInOrder}
use Rattle.geo_model.specs.Sound.{IsHandleConsumer, HasItsConsumer}
use Rattle.geo_model.specs.SoundBios.{HasCountFor}
use Rattle.geo_model.specs.Steady.{ComesFromItsOwner}
use Rattle.geo_model.specs.Fitting.{Firm}
use Rattle.geo_laws_graph.proofs.Members.{find-Contains, filter-Contains}
use Rattle.geo_laws_graph.proofs.Lists.{numbers-push}
use Rattle.geo_laws_graph.proofs.Numbered.{number_found, any-contained, find-pushed, find-pushed_hit, filter-pushed, filter-pushed_hit}
use Rattle.geo_laws_graph.proofs.Found.{added-consumer}
use Rattle.geo_laws_graph.proofs.Living.{found-before, sound-order, all_members}
use Rattle.geo_laws_graph.proofs.Holding.{sound-ranks}
use Rattle.geo_laws_graph.proofs.Opens.{open-rises}
use Rattle.geo_laws_counts.specs.CountWords.{AgreeExcept}
use Rattle.geo_laws_counts.proofs.Numbers.{numbers_lead, free_of}
use Rattle.geo_laws_counts.specs.DemandLaws.{StaysAround}
use Rattle.geo_laws_counts.specs.AllowedLaws.{IsAllowed}
use Rattle.geo_laws_counts.proofs.Openers.{came_stays, came_wants}
use Rattle.geo_laws_counts.proofs.Refusing.{errors_came}
use Rattle.geo_laws_bios.proofs.Items.{none_kept}
use Rattle.geo_laws_life.proofs.Found.{found-with, some-with, some-there}
use Rattle.geo_laws_life.proofs.Bare.{bare_there, holds_grants, none_holds_next}
use Rattle.geo_laws_life.proofs.Frames.{Frame, came, has_its-still, tasting_stays, taste-still, framed-firm}

-- who serves a bio, serves it with more counts
more_serve : (b : Bool) (a c d : Counts) → d ≡ add_counts a c → (IsTrue b → 0 < a.r) × (b ≡ false → 0 < a.w)
    → (IsTrue b → 0 < d.r) × (b ≡ false → 0 < d.w)
more_serve b a c d e serves =
    subst (λ (z : Counts). (IsTrue b → 0 < z.r) × (b ≡ false → 0 < z.w)) (sym e) (
      (λ reads. let some : 0 < a.r = serves.0 reads in omega arith),
      (λ other. let some : 0 < a.w = serves.1 other in omega arith),
    )

module _ (w : World) (firm : Firm w) (actor : ℕ) (name : List ℕ) (p : ℕ) (grant : Counts) where
  -- the graph before
  abbrev t : Topology Config
  t = w.topology

  -- the graph with the consumer
  abbrev u : Topology Config
  u = add_consumer t 1 (Some p)

  -- the world with the handle
  abbrev pub v : World
  v = with_handle w actor name p grant

  -- the new consumer
  abbrev new : Consumer
  new = record { number = t.next_consumer; geom = 1; provider = Some p; spoiled = false }

  -- the new handle
  abbrev handle : Handle
  handle = record {
    number = w.next_handle;
    actor = actor;
    name = name;
    consumer = Some t.next_consumer;
    grant = grant;
    dead = false;
  }

  -- the graph stands in order
  order : IsInOrder t
  order = sound-order w firm.graph.numbers

  -- each consumer has another number
  free : All (λ (c : Consumer). c.number ≢ t.next_consumer) t.consumers
  free = free_of (λ (c : Consumer). c.number) t.consumers t.next_consumer order.consumers.1

  -- Grants

  -- the others stay
  pub agree : AgreeExcept t.next_consumer (granted_in w) (granted_in v)
  agree n apart =
      ap (λ (o : Option Handle). option_map_or (λ (h : Handle). h.grant) o (taste_grant w.taste n))
      (find-pushed (λ (h : Handle). names_number h.consumer n) w.handles handle
      (ne_eqb t.next_consumer n (λ same. apart (sym same))))

  -- the new one is that of the open
  pub granted : granted_in v t.next_consumer ≡ grant
  granted =
      ap
      (λ (o : Option Handle). option_map_or (λ (h : Handle). h.grant) o (taste_grant w.taste t.next_consumer))
      (find-pushed_hit (λ (h : Handle). names_number h.consumer t.next_consumer) w.handles handle
      (none_holds_next w firm) (eq-eqb t.next_consumer t.next_consumer refl))

  module _ (x : Provider) (found : provider_at t p ≡ Some x)
      (allowed : IsAllowed (granted_in v) (with_opener t p) p) where
    -- only what is below the provider changes
    around : StaysAround (granted_in w) t (granted_in v) u (below t p)
    around = came_stays (granted_in w) (granted_in v) t 1 p free (holds_grants w firm 1 (inl refl)) agree
        (sound-ranks.opened t 1 p x (inl refl) firm.graph.ranks firm.graph.parts.consumers found).ranked
        (numbers_lead t order.providers.0) firm.graph.ranks.dev.no_provider

    -- no error is below it
    no_error : has_error_below t p ≡ false
    no_error = sym (errors_came t 1 p firm.graph.ranks.dev.no_provider p) ∙ allowed.errors

    -- a provider with an error isn't below
    not_below : (q : Provider) → Contains t.providers q → q.errored ≡ true → Contains (below t p) q.number → ⊥
    not_below q here errored reached =
        let is : is_errored t q.number ≡ true =
        any-contained (λ (y : Provider). (y.number == q.number) && y.errored) t.providers q here
        (rw (eq-eqb q.number q.number refl, errored) refl) in
        let some : has_error_below t p ≡ true = any-contained (is_errored t) (below t p) q.number reached is in
        let no_more : true ≡ false = sym some ∙ no_error in
        cc

    -- so a provider of a geom that withers has the counts that it had
    same_have : (q : Provider) → Contains t.providers q → (g : Geom Config) → geom_at t q.geom ≡ Some g
        → g.withering ≡ true → have (granted_in v) u q.number ≡ have (granted_in w) t q.number
    same_have q here g of withers =
        let number : g.number ≡ q.geom = number_found (λ (y : Geom Config). y.number) t.geoms q.geom g of in
        let is : is_withering t q.geom ≡ true =
        any-contained (λ (y : Geom Config). (y.number == q.geom) && y.withering) t.geoms g
        (find-Contains (λ (y : Geom Config). y.number == q.geom) t.geoms g of)
        (rw (eq-eqb g.number q.geom number, withers) refl) in
        around.haves q.number (not_below q here
        (All-contains (λ (y : Provider). IsTrue (is_withering t y.geom) → y.errored ≡ true) t.providers q
        firm.graph.providers.withering here is))

    -- one consumer of DEV comes
    frame : Frame t u 1
    frame = came t order 1 p (some-there (provider_at t p) x found)

    -- a consumer that was found still is
    still : (n : ℕ) (d : Consumer) → consumer_at t n ≡ Some d → consumer_at u n ≡ Some d
    still n d e = found-before (λ (z : Consumer). z.number == n) t.consumers (new ∷ []) d e

    -- Handles

    -- as many handles of another consumer
    same_count : (n : ℕ) → n ≢ t.next_consumer
        → count_by (λ (h : Handle). names_number h.consumer n) v.handles
        ≡ count_by (λ (h : Handle). names_number h.consumer n) w.handles
    same_count n apart =
        sym (length-filter (λ (h : Handle). names_number h.consumer n) v.handles)
        ∙ ap (λ (hs : List Handle). length hs)
        (filter-pushed (λ (h : Handle). names_number h.consumer n) w.handles handle
        (ne_eqb t.next_consumer n (λ same. apart (sym same))))
        ∙ length-filter (λ (h : Handle). names_number h.consumer n) w.handles

    -- one of the new one
    new_count : count_by (λ (h : Handle). names_number h.consumer t.next_consumer) v.handles ≡ 1
    new_count =
        sym (length-filter (λ (h : Handle). names_number h.consumer t.next_consumer) v.handles)
        ∙ ap (λ (hs : List Handle). length hs)
        (filter-pushed_hit (λ (h : Handle). names_number h.consumer t.next_consumer) w.handles handle
        (eq-eqb t.next_consumer t.next_consumer refl)
        ∙ ap (λ (hs : List Handle). hs ++ handle ∷ [])
        (none_kept (λ (h : Handle). names_number h.consumer t.next_consumer) w.handles
        (none_passes (λ (h : Handle). names_number h.consumer t.next_consumer) w.handles (none_holds_next w firm))))

    -- each consumer of DEV is that of one handle
    one_each : (c : Consumer) → Contains (consumers_of t 1) c → IsHandleConsumer w.handles c
        → IsHandleConsumer v.handles c
    one_each c here is =
        let kept = filter-Contains (λ (z : Consumer). z.geom == 1) t.consumers c here in
        record {
          attached = is.attached;
          one_handle = same_count c.number
              (All-contains (λ (z : Consumer). z.number ≢ t.next_consumer) t.consumers c free kept.0)
              ∙ is.one_handle;
        }

    -- Bios

    -- a bio that its consumer served is served
    serves : (b : Bio) (o : Option (Geom Config)) (c : Consumer) → Contains t.consumers c → geom_at t c.geom ≡ o
        → IsSome o → HasCountFor (granted_in w) t b c → HasCountFor (granted_in v) u b c
    serves b None c here e some counts = absurd (let bad : ⊥ = cc in bad)
    serves b (Some g) c here e some counts =
        more_serve (is_read b.cmd) (want (granted_in w) t c) _ (want (granted_in v) u c)
        (came_wants (granted_in w) (granted_in v) t 1 p free (holds_grants w firm 1 (inl refl)) agree c g here e)
        counts

    -- it comes from its owner
    comes : (b : Bio) (o : Owner) → ComesFromItsOwner w.handles w.taste b o → ComesFromItsOwner v.handles w.taste b o
    comes b (owners.Line number line) fact =
        let h = found-with (find (λ (h : Handle). h.number == number) w.handles) (λ h. h.consumer ≡ Some b.source)
        fact in
        some-with (find (λ (h : Handle). h.number == number) v.handles) (λ h. h.consumer ≡ Some b.source) h.item
        (found-before (λ (h : Handle). h.number == number) w.handles (handle ∷ []) h.item h.is) h.fact
    comes b owners.Taste fact = fact
    comes b (owners.Child parent index) fact = fact

    -- so the world is firm
    pub opened-firm : Firm v
    opened-firm = framed-firm w firm v 1 (inl refl) frame (record {
      ranks = sound-ranks.opened t 1 p x (inl refl) firm.graph.ranks firm.graph.parts.consumers found;
      counts = record { exclusive = allowed.exclusive; limited = allowed.limit };
      closed = λ q g here of withers zero. ap is_zero (same_have q here g of withers) ∙ zero;
      handles = record {
        numbers = numbers-push (λ (h : Handle). h.number) w.next_handle w.handles handle refl
            firm.handles.numbers;
        consumers = subst (All (IsHandleConsumer v.handles)) (sym (added-consumer.own t 1 (Some p)))
            (All-push (IsHandleConsumer v.handles) (consumers_of t 1) new
            (all_members (IsHandleConsumer w.handles) (IsHandleConsumer v.handles) (consumers_of t 1) one_each
            firm.handles.consumers)
            (record { attached = refl; one_handle = new_count }));
        handles = All-push (HasItsConsumer u) w.handles handle
            (All-weaker (HasItsConsumer t) (HasItsConsumer u) (has_its-still t u (λ n c e one. still n c e)) w.handles
            firm.handles.handles)
            (some-with (consumer_at u t.next_consumer) (λ z. z.geom ≡ 1) new (added-consumer.new t 1 (Some p) order)
            refl);
        taste = tasting_stays t u (frame.others 2 (λ e. absurd (omega (arith, e)))) w.taste firm.handles.taste;
      };
      sources = λ b here c e counts.
          let stands = find-Contains (λ (z : Consumer). z.number == b.source) t.consumers c e in (
            still b.source c e,
            serves b (geom_at t c.geom) c stands refl
                (All-contains (λ (z : Consumer). IsSome (geom_at t z.geom)) t.consumers c firm.graph.parts.consumers
                stands) counts,
          );
      owners = λ b here. comes b b.owner;
      read_out = firm.bios.read_out;
      taste = taste-still w firm v 1 (inl refl) frame (λ g other.
          let same : rank u g ≡ rank t g = (open-rises t 1 p x firm.graph.ranks.ranked firm.graph.parts.consumers
          (bare_there w firm 1 (inl refl)) firm.graph.ranks.dev.no_provider found).0.same g other in omega arith)
          w.taste firm.taste.order;
      asked = firm.taste.asked;
    })
