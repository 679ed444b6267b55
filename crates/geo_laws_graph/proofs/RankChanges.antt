-- Ranks after each change of one thing.
use Rattle.std.specs.Prelude.{◌≡◌, ◌↔◌, ℕ, ◌+◌, ◌==◌, Bool, true, false, [], ◌∷◌, Some, None, IfSome, IsSome}
use Rattle.std.proofs.Common.{refl, sym, ◌∙◌}
use Rattle.geo_model.specs.Errno.TheVariants.{ENXIO, ELOOP, EDEEP}
use Rattle.std.proofs.lemmas.List.{length-map}
use Rattle.geo_laws_graph.specs.LookupLaws.{seen_geom}
use Rattle.geo_model.specs.Words.{first_error}
use Rattle.geo_model.specs.Topology.{with_configs, Topology, Geom, Provider, geom_at, provider_at, consumer_at, add_geom, add_provider, add_consumer, remove_geom, remove_provider, remove_consumer, attach, set_error, set_size, set_withering, set_marks, set_config, note_started, is_errored, detach}
use Rattle.geo_model.specs.Rank.{reaches, Ranked, would_loop, attach_refusal, is_too_deep}
use Rattle.geo_laws_graph.specs.Edges.{Loop}
use Rattle.geo_laws_graph.specs.Attach.{CanAttach, IsAttached}
use Rattle.geo_laws_graph.specs.RankLaws.{AllRanksStay, RanksRise}
use Rattle.geo_laws_graph.specs.RankChangeLaws.{PlainChangesKeepRanks, AddingKeepsRanks, RemovingKeepsRanks}
use Rattle.geo_laws_graph.proofs.AddedEdges.{ranked-fewer, ranked-added, added-ranked, loop-from_reaches, reaches-from_loop}
use Rattle.geo_laws_graph.proofs.Attaching.{attach-edge, removed-edge, removed-edges, loose-edges, detach-edge, added-edges, unattached-edges, opened-edge}
use Rattle.geo_laws_graph.proofs.KeptEdges.{parts-edges, under-edges, geoms_under-set_marks, geoms_under-set_error, geoms_under-set_size, add_provider-edges, before_provider-edges, remove_provider-edges, before_removal-edges}
use Rattle.geo_laws_graph.proofs.Lists.{length-changed}
use Rattle.geo_model.specs.Graph.{GeomsLive, IsInOrder}
use Rattle.geo_laws_graph.proofs.Living.{add_provider-providers, remove_provider-providers, add_geom-geoms, remove_geom-geoms, add_consumer-geoms, add_consumer-providers, remove_consumer-geoms, remove_consumer-providers, changed-consumers, attach-providers, attach-geoms, set_error-providers, set_size-providers, set_marks-providers}
use Rattle.geo_laws_graph.proofs.EdgeRanks.{ranked-live, stays_all, stays-same_edges, rises-edge}

module _ {C : Type 0} where
  -- what has no part in the edges
  pub plain-stay : PlainChangesKeepRanks C
  plain-stay = record {
    error = λ t p.
        stays_all t (set_error t p) refl
        (under-edges t (set_error t p) (geoms_under-set_error t p))
        (under-edges (set_error t p) t (λ g. sym (geoms_under-set_error t p g)))
        (set_error-providers t p);
    size = λ t p size.
        stays_all t (set_size t p size) refl
        (under-edges t (set_size t p size) (geoms_under-set_size t p size))
        (under-edges (set_size t p size) t (λ g. sym (geoms_under-set_size t p size g)))
        (set_size-providers t p size);
    withering = λ t g.
        stays_all t (set_withering t g)
        (length-changed (λ (x : Geom C). x.number == g) (λ x. record x { withering = true }) t.geoms)
        (parts-edges t (set_withering t g) refl refl) (parts-edges (set_withering t g) t refl refl) (λ live. live);
    marks = λ t test mark.
        stays_all t (set_marks t test mark) refl
        (under-edges t (set_marks t test mark) (geoms_under-set_marks t test mark))
        (under-edges (set_marks t test mark) t (λ g. sym (geoms_under-set_marks t test mark g)))
        (set_marks-providers t test mark);
    config = λ t g config.
        stays_all t (set_config t g config)
        (length-changed (λ (x : Geom C). x.number == g) (λ x. record x { config = config }) t.geoms)
        (parts-edges t (set_config t g config) refl refl) (parts-edges (set_config t g config) t refl refl)
        (λ live. live);
    started = λ t g.
        stays_all t (note_started t g)
        (length-changed (λ (x : Geom C). x.number == g) (λ x. record x { started = x.started + 1 }) t.geoms)
        (parts-edges t (note_started t g) refl refl) (parts-edges (note_started t g) t refl refl) (λ live. live);
  }

  -- what comes with no edge
  pub adding-stay : AddingKeepsRanks C
  adding-stay = record {
    geom = λ t kind name config automatic ranked live.
        stays-same_edges t (add_geom t kind name config automatic) ranked
        (add_geom-geoms t kind name config automatic live) (ranked-live t ranked)
        (parts-edges t (add_geom t kind name config automatic) refl refl)
        (parts-edges (add_geom t kind name config automatic) t refl refl);
    provider = λ t geom name size sector ranked live.
        stays-same_edges t (add_provider t geom name size sector) ranked live
        (add_provider-providers t geom name size sector (ranked-live t ranked))
        (add_provider-edges t geom name size sector)
        (before_provider-edges t geom name size sector (ranked-live t ranked));
    consumer = λ t geom ranked live there.
        stays-same_edges t (add_consumer t geom None) ranked
        (add_consumer-geoms t geom None there live) (add_consumer-providers t geom None tt (ranked-live t ranked))
        (added-edges t geom None) (unattached-edges t geom None refl);
  }

  -- what goes with none
  pub removing-stay : RemovingKeepsRanks C
  removing-stay = record {
    geom = λ t g ranked live none.
        stays-same_edges t (remove_geom t g) ranked (remove_geom-geoms t g none live) (ranked-live t ranked)
        (parts-edges t (remove_geom t g) refl refl) (parts-edges (remove_geom t g) t refl refl);
    provider = λ t p ranked live none.
        stays-same_edges t (remove_provider t p) ranked live (remove_provider-providers t p none (ranked-live t ranked))
        (remove_provider-edges t p none) (before_removal-edges t p);
    consumer = λ t c x ranked live order found loose.
        stays-same_edges t (remove_consumer t c) ranked (remove_consumer-geoms t c live)
        (remove_consumer-providers t c (ranked-live t ranked))
        (loose-edges t c order x found loose) (removed-edges t c);
  }

module _ {C : Type 0} (t : Topology C) (c : ℕ) where
  module _ (p : ℕ) (can : CanAttach t c p) (ranked : Ranked t) (live : GeomsLive t) (order : IsInOrder t) where
    -- the provider lives
    offered : IsSome (provider_at t p)
    offered = let offers : provider_at t p ≡ Some can.provider = can.offers in rw offers refl

    -- an attach that makes no loop
    pub attach-ranked : reaches t can.provider.geom can.consumer.geom ≡ false → Ranked (attach t c p)
    attach-ranked none =
        ranked-added t (attach t c p) can.consumer.geom can.provider.geom (attach-edge t c p order can) ranked
        (attach-geoms t c p live) (attach-providers t c p offered (ranked-live t ranked)) none

    -- then the ranks rise as by one edge more
    pub attach-rises : reaches t can.provider.geom can.consumer.geom ≡ false
        → RanksRise t (attach t c p) can.consumer.geom can.provider.geom
    attach-rises none =
        rises-edge t (attach t c p) can.consumer.geom can.provider.geom (attach-edge t c p order can) ranked
        (attach-ranked none)

    -- an attach is refused as a loop just where the provider's geom reaches the consumer's
    loop_is : would_loop t (consumer_at t c) (provider_at t p) ≡ reaches t can.provider.geom can.consumer.geom
    loop_is =
        let found : consumer_at t c ≡ Some can.consumer = can.stands in
        let offered : provider_at t p ≡ Some can.provider = can.offers in
        rw (found, offered) refl

    -- an attach is refused as a loop exactly where it would leave no ranks
    pub loop-ranked : (would_loop t (consumer_at t c) (provider_at t p) ≡ false) ↔ Ranked (attach t c p)
    loop-ranked = (
      (λ e. attach-ranked (sym loop_is ∙ e)),
      (λ now. loop_is
          ∙ added-ranked t (attach t c p) can.consumer.geom can.provider.geom (attach-edge t c p order can) now),
    )

    -- that is, exactly where the geom would reach itself
    pub loop-back : (would_loop t (consumer_at t c) (provider_at t p) ≡ true) ↔ Loop (attach t c p) can.consumer.geom
    loop-back = (
      (λ e. record {
        first = can.provider.geom;
        below = (attach-edge t c p order can).new;
        back = loop-from_reaches t (attach t c p) can.consumer.geom can.provider.geom (attach-edge t c p order can)
            (sym loop_is ∙ e);
      }),
      (λ loop.
          loop_is
          ∙ reaches-from_loop t (attach t c p) can.consumer.geom can.provider.geom (attach-edge t c p order can) ranked
          (attach-geoms t c p live) (attach-providers t c p offered (ranked-live t ranked)) loop.first
          loop.below loop.back),
    )

    -- an attach that isn't refused
    pub attach-accepted : attach_refusal t c p ≡ None
        → RanksRise t (attach t c p) can.consumer.geom can.provider.geom × (is_too_deep (attach t c p) ≡ false)
    attach-accepted none =
        let both = no_refusal (is_errored t p) (would_loop t (consumer_at t c) (provider_at t p))
        (is_too_deep (attach t c p)) none in
        (attach-rises (sym loop_is ∙ both.0), both.1)
      where
        -- without an error there is no loop, and nothing is too deep
        no_refusal : (x y z : Bool) → first_error ((x, ENXIO) ∷ (y, ELOOP) ∷ (z, EDEEP) ∷ []) ≡ None
            → (y ≡ false) × (z ≡ false)
        no_refusal true y z e = absurd (let bad : ⊥ = cc in bad)
        no_refusal false true z e = absurd (let bad : ⊥ = cc in bad)
        no_refusal false false true e = absurd (let bad : ⊥ = cc in bad)
        no_refusal false false false e = (refl, refl)

  module _ (at : IsAttached t c) (ranked : Ranked t) (live : GeomsLive t) (order : IsInOrder t) where
    -- the graph is ranked after a detach
    detach_ranked : Ranked (detach t c)
    detach_ranked =
        ranked-fewer t (detach t c) ranked (detach-edge t c order at).old
        (changed-consumers t (λ x. IsSome (geom_at t x.geom)) (λ x. x.number == c)
        (λ x. record x { provider = None }) (λ x e fact. fact) live)
        (changed-consumers t (λ x. IfSome x.provider (λ q. IsSome (provider_at t q))) (λ x. x.number == c)
        (λ x. record x { provider = None }) (λ x e fact. tt) (ranked-live t ranked))

    -- a detach
    pub detach-lowers : Ranked (detach t c) × RanksRise (detach t c) t at.consumer.geom at.provider.geom
    detach-lowers = (
      detach_ranked,
      rises-edge (detach t c) t at.consumer.geom at.provider.geom (detach-edge t c order at)
          detach_ranked ranked,
    )

    -- and after a removal
    removal_ranked : Ranked (remove_consumer t c)
    removal_ranked =
        ranked-fewer t (remove_consumer t c) ranked (removed-edges t c) (remove_consumer-geoms t c live)
        (remove_consumer-providers t c (ranked-live t ranked))

    -- the removal of an attached consumer
    pub removal-lowers : Ranked (remove_consumer t c)
        × RanksRise (remove_consumer t c) t at.consumer.geom at.provider.geom
    removal-lowers = (
      removal_ranked,
      rises-edge (remove_consumer t c) t at.consumer.geom at.provider.geom (removed-edge t c order at)
          removal_ranked ranked,
    )

-- a new consumer, attached at once
pub opening-rises : {C : Type 0} (t : Topology C) (geom p : ℕ) (x : Provider) → Ranked t → GeomsLive t
    → IsSome (geom_at t geom) → provider_at t p ≡ Some x
    → reaches t x.geom geom ≡ false → RanksRise t (add_consumer t geom (Some p)) geom x.geom
opening-rises t geom p x ranked live there found none =
    let added = opened-edge t geom (Some p) p x refl found in
    rises-edge t (add_consumer t geom (Some p)) geom x.geom added ranked
    (ranked-added t (add_consumer t geom (Some p)) geom x.geom added ranked
    (add_consumer-geoms t geom (Some p) there live)
    (add_consumer-providers t geom (Some p) (let is : provider_at t p ≡ Some x = found in
    rw is refl) (ranked-live t ranked)) none)

-- configurations that are seen otherwise
pub configs-seen : {C D : Type 0} (see : C → D) (t : Topology C) → AllRanksStay t (with_configs see t)
configs-seen see t =
    stays_all t (with_configs see t) (length-map t.geoms (seen_geom see))
    (parts-edges t (with_configs see t) refl refl) (parts-edges (with_configs see t) t refl refl) (λ live. live)

-- what `configs_keep_ranks` says
pub ruleset configs_keep_ranks = (configs-seen)

-- what `ranks_stay` says
pub ruleset ranks_stay = (plain-stay, adding-stay, removing-stay)
