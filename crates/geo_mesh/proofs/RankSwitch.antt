-- What an attach and a detach do to the mesh that stands.
use Rattle.std.specs.Prelude.{◌≡◌, ℕ, ◌+◌, ◌≤◌, ◌==◌, true, false, Option, Some, None, IsSome, IfSome, IsSomeAnd, length, map}
use Rattle.std.proofs.Common.{refl, sym, ap, ◌∙◌, subst, arith, inl, inr, rules}
use Rattle.std.proofs.lemmas.Bool.{false_from_ne_true, cases_Bool}
use Rattle.std.proofs.lemmas.List.{length-map}
use Rattle.geo_model.specs.Errno.TheVariants.{ELOOP, EDEEP}
use Rattle.geo_model.specs.Topology.{consumer_at, provider_at, attach, is_errored}
use Rattle.geo_model.specs.Rank.{reaches, is_too_deep, would_loop, attach_refusal}
use Rattle.geo_slots.specs.Slots.{SlotsView, IsRising, value_at}
use Rattle.geo_mesh.specs.declared.records.AttachRefusal.{AttachRefusal}
use Rattle.geo_mesh.specs.declared.records.AttachRefusal.TheVariants.{Enxio, Eloop, Edeep}
use Rattle.geo_mesh.specs.Refusals.{attach_errno}
use Rattle.geo_mesh.specs.declared.records.GeomCell.{GeomCell}
use Rattle.geo_mesh.specs.declared.records.ConsCell.{ConsCell}
use Rattle.geo_mesh.specs.declared.tables.Edges.{Edges}
use Rattle.geo_mesh.specs.declared.index.Index.{Index}
use Rattle.geo_mesh.specs.Rows.{row_with, rows_with}
use Rattle.geo_mesh.specs.Cells.{graph_of, put_consumer, consumer_row}
use Rattle.geo_mesh.specs.Mending.{IsAmong, StandsAbove, Joined, IsJoinable, Lowered, above}
use Rattle.geo_mesh.specs.Ranks.{IsKin, kind_of, ranked_link_of, owner_of, kinds, bare, offers, ranked_links, stored, ranked_below, owner, user, ranks, is_dev_or_taste, below, rank_from, is_high, IsRefusedFor, IsWalkable, IsAdmitted, HaveDevAndTaste, HaveRanks, OwnerLives, UserLives}
use Rattle.geo_mesh.proofs.RowLemmas.{rows_changed, rows_with-with_value, value_at-rows_with}
use Rattle.geo_mesh.proofs.ViewLemmas.{consumer_at-view, provider_at-view}
use Rattle.geo_mesh.proofs.RankMend.{enough-climbs, apart-enough, apart-lowered, apart-kept}
use Rattle.geo_mesh.proofs.RankHeights.{height-climbs}
use Rattle.geo_mesh.proofs.RankRows.{all-at, high-less, kinds-bare, ranks-geoms}
use Rattle.geo_mesh.proofs.RankFirst.{footing-none, footing-later, footing-first, ranked_below-first, rank_from-local, rank_from-few, rank_from-high, stands-down, stands-up, below-later, owner-later, numbers-bare}
use Rattle.geo_mesh.proofs.RankMesh.{all-with_value, same-cells, mesh-consumer, mesh-switch, mesh-low, switch-joined, stored-bound, stored-listed, rank_from-most, rank-is, deep-is, stands-reaches, reaches-stands}

-- the mesh stands where the ranks are as they were
pub mesh-kept : {C : Type 0} (gs ns : SlotsView (GeomCell C)) (edges : Edges) (live : ℕ) → HaveRanks gs edges live
    → bare ns ≡ bare gs → ((x : ℕ) → stored ns x ≡ stored gs x) → HaveRanks ns edges live
mesh-kept {C} gs ns edges live mesh same kept =
    search (
      rules,
      kinds-bare gs ns same,
      length-map gs.rows (row_with (kind_of {C = C})),
      length-map ns.rows (row_with (kind_of {C = C})),
      ranks-geoms (kinds gs) (ranks gs) (offers edges).rows (ranked_links edges).rows mesh.standing (kinds ns)
          (ranks ns) kept,
      high-less (stored gs) (stored ns) (kinds gs) (λ x. omega (arith, kept x)) mesh.standing.low,
    )

-- a geom that stands just above another in rank is a later one
pub above-later : {C : Type 0} (gs : SlotsView (GeomCell C)) (edges : Edges) (live : ℕ) → HaveRanks gs edges live
    → (under upper : ℕ) {low high : ℕ} → low ≡ stored gs under → high ≡ stored gs upper → low + 1 ≡ high
    → is_dev_or_taste upper ≡ false
above-later gs edges live mesh under upper low_is high_is just_above = search (rules, ranked_below-first edges upper)

module _ {C : Type 0} (gs : SlotsView (GeomCell C)) (edges : Edges) (live : ℕ) (mesh : HaveRanks gs edges live)
    (n p : ℕ) (v : ConsCell) (rising : IsRising 1 edges.consumers.rows edges.consumers.next) (at : Some v
    ≡ value_at edges.consumers.rows n) where
  -- the consumer's cell, attached to a provider or to nothing
  abbrev put : Option ℕ → ConsCell
  put o = record v { consumer = record v.consumer { prov = o } }

  -- the consumers with this one attached to nothing, or to the provider
  abbrev switched : Option ℕ → Edges
  switched o = put_consumer edges n (put o)

  -- the consumer's row has its geom, and its provider if it has one
  seen_row : value_at (rows_with ranked_link_of edges.consumers.rows) n ≡ Some (ranked_link_of v)
  seen_row = rw (value_at-rows_with ranked_link_of n edges.consumers.rows, ← at) refl

  -- the consumer's geom is there
  pub user-stands : IsSome (value_at (kinds gs) v.consumer.geom)
  user-stands =
      all-at (UserLives (kinds gs))
      (rows_with ranked_link_of edges.consumers.rows) n (ranked_link_of v) mesh.standing.owned seen_row

  -- attached to what it is attached to, the consumers are as they were
  unchanged : (o : Option ℕ) → v.consumer.prov ≡ o → switched o ≡ edges
  unchanged o is = ap (λ (o : Option ℕ). switched o) (sym is) ∙ same-cells edges n v rising at

  -- attached to nothing, it has no rank that stands on anything
  ends-free : ranked_link_of (put None) ≡ (v.consumer.geom, None)
  ends-free = ap (λ (o : Option ℕ). (v.consumer.geom, o)) (footing-none v.consumer.geom)

  -- attached to the provider, the rank of a later geom stands on it
  ends-bound : is_dev_or_taste v.consumer.geom ≡ false → ranked_link_of (put (Some p)) ≡ (v.consumer.geom, Some p)
  ends-bound later = ap (λ (o : Option ℕ). (v.consumer.geom, o)) (footing-later v.consumer.geom (Some p) later)

  -- the ranks don't see to what a consumer of one of the first two geoms is attached
  pub first-switched : (o : Option ℕ) → is_dev_or_taste v.consumer.geom ≡ true → HaveRanks gs (switched o) live
  first-switched o first = search (rules, mesh-consumer gs edges live n mesh v, footing-first v.consumer.geom)

  module _ (is : v.consumer.prov ≡ Some p) (later : is_dev_or_taste v.consumer.geom ≡ false) where
    -- the provider to which it is attached is there
    offered : IsSome (value_at (offers edges).rows p)
    offered = rw (later, is) at
        (all-at (OwnerLives (offers edges).rows)
        (rows_with ranked_link_of edges.consumers.rows) n (ranked_link_of v) mesh.standing.attached seen_row)

    -- the graph is that after the detach, with the provider's geom below the consumer's
    off-joined : Joined (ranked_below (switched None)) (ranked_below edges) v.consumer.geom (owner edges p)
    off-joined =
        subst (λ us. Joined (ranked_below (switched None)) (ranked_below us) v.consumer.geom (owner edges p))
        (unchanged (Some p) is)
        (switch-joined gs edges live mesh n p v (put (Some p)) (put None) rising at (ends-bound later)
        ends-free offered)

    -- after a detach no rank is too small
    pub off-enough : (x : ℕ) → above (ranked_below (switched None)) (stored gs) x ≤ stored gs x
    off-enough =
        apart-enough (ranked_below (switched None)) (ranked_below edges) v.consumer.geom (owner edges p) off-joined
        (stored gs) mesh.standing.local

    -- and the graph may be walked over
    pub off-walkable : (i : Index) → IsKin (record (switched None) { index = i })
        → IsWalkable (kinds gs) (record (switched None) { index = i })
    off-walkable i kin =
        search (
          rules,
          rows_with-with_value ranked_link_of n (put None) edges.consumers.rows,
          length-map gs.rows (row_with (kind_of {C = C})),
          height-climbs (ranked_below (switched None)) (stored gs)
              (enough-climbs (ranked_below (switched None)) (stored gs) off-enough)
              (λ x. omega (arith, mesh.standing.local x)) (length (kinds gs))
              (stored-bound gs (ranked_below edges) mesh.standing.local),
          all-with_value (UserLives (kinds gs)) n (v.consumer.geom, None)
              (rows_with ranked_link_of edges.consumers.rows) user-stands mesh.standing.owned,
        )

    -- the mesh stands once the geom is lowered
    pub off-lowered : (ns : SlotsView (GeomCell C)) → bare ns ≡ bare gs
        → Lowered (ranked_below (switched None)) (stored gs) (stored ns)
        → stored ns v.consumer.geom ≤ above (ranked_below (switched None)) (stored ns) v.consumer.geom
        → HaveRanks ns (switched None) live
    off-lowered ns same one low =
        mesh-switch gs edges live mesh ns n p None v (put None) same at ends-free tt
        (apart-lowered (ranked_below (switched None)) (ranked_below edges) v.consumer.geom (owner edges p)
        off-joined (stored gs) mesh.standing.local (stored ns) one low)
        (high-less (stored gs) (stored ns) (kinds gs) one.falls mesh.standing.low)

    -- and at once where the geom below wasn't the highest
    pub off-kept : (stored gs (owner edges p) + 1 ≡ stored gs v.consumer.geom → ⊥) → HaveRanks gs (switched None) live
    off-kept differs =
        mesh-switch gs edges live mesh gs n p None v (put None) refl at ends-free tt
        (apart-kept (ranked_below (switched None)) (ranked_below edges) v.consumer.geom (owner edges p) off-joined
        (stored gs) mesh.standing.local
        (omega (arith, mesh.standing.local v.consumer.geom, off-joined.here (stored gs), differs)))
        mesh.standing.low

  -- the mesh stands after a detach where the geom below wasn't the highest, or the rank doesn't stand on it
  pub off-stays : v.consumer.prov ≡ Some p → (stored gs (owner edges p) + 1 ≡ stored gs v.consumer.geom → ⊥)
      → HaveRanks gs (switched None) live
  off-stays is differs = search (rules, first-switched None, off-kept is)

  -- the graph with the consumer's row attached is that after an attach
  on-graph : graph_of gs (switched (Some p)) ≡ attach (graph_of gs edges) n p
  on-graph =
      ap (λ cs. record (graph_of gs edges) { consumers = cs })
      (rows_changed edges.consumers n v (put (Some p)) rising (sym at) consumer_row (λ x. x.number == n) (λ row. refl)
      (λ x. record x { provider = Some p }) refl)

  -- the consumer of the number, by its row
  consumer_seen_at : consumer_at (graph_of gs edges) n ≡ Some (consumer_row (n, v))
  consumer_seen_at = rw (consumer_at-view gs edges n, ← at) refl

  -- a loop would arise just where the provider's geom reaches the consumer's
  loop_is : IsSome (value_at (offers edges).rows p)
      → would_loop (graph_of gs edges) (consumer_at (graph_of gs edges) n) (provider_at (graph_of gs edges) p)
      ≡ reaches (graph_of gs edges) (owner edges p) v.consumer.geom
  loop_is offered =
      search (rules, consumer_seen_at, provider_at-view gs edges p, value_at-rows_with owner_of p edges.providers.rows)

  module _ (is : v.consumer.prov ≡ None) (offered : IsSome (value_at (offers edges).rows p))
      (first : HaveDevAndTaste gs edges) (later : is_dev_or_taste v.consumer.geom ≡ false) where
    -- the graph after the attach is that before it, with the provider's geom below the consumer's
    on-joined : Joined (ranked_below edges) (ranked_below (switched (Some p))) v.consumer.geom (owner edges p)
    on-joined =
        search (rules, unchanged None is, switch-joined gs edges live mesh n p v (put (Some p)) (put None) rising)

    -- the mesh stands with the consumer attached
    pub on-mesh : (ns : SlotsView (GeomCell C)) → bare ns ≡ bare gs
        → IsJoinable (ranked_below edges) v.consumer.geom (owner edges p) (stored ns)
        → is_high (kinds gs) (stored ns) ≡ false → HaveRanks ns (switched (Some p)) live
    on-mesh ns same joinable low =
        mesh-switch gs edges live mesh ns n p (Some p) v (put (Some p)) same at (ends-bound later) offered
        (joinable.local (ranked_below (switched (Some p))) on-joined) low

    -- after the attach no rank is more than one above the number of geoms
    on-few : (ns : SlotsView (GeomCell C)) → bare ns ≡ bare gs
        → IsJoinable (ranked_below edges) v.consumer.geom (owner edges p) (stored ns) → (x : ℕ)
        → rank_from (stored ns) (switched (Some p)) x ≤ length gs.rows + 1
    on-few ns same joinable x =
        let few : rank_from (stored ns) (switched (Some p)) x
        ≤ length (map (λ (row : ℕ × GeomCell C). row.0) gs.rows) + 1 =
        rank_from-few (switched (Some p)) first.bare (stored ns)
        (joinable.local (ranked_below (switched (Some p))) on-joined)
        (map (λ (row : ℕ × GeomCell C). row.0) gs.rows) first.listed
        (λ g high. subst (λ ms. IsAmong ms g) (numbers-bare gs ns same) (stored-listed gs edges ns.rows g high)) x in
        rw (length-map gs.rows (λ (row : ℕ × GeomCell C). row.0)) at few

    -- whether a geom would be too deep
    on-deep : (ns : SlotsView (GeomCell C)) → bare ns ≡ bare gs
        → IsJoinable (ranked_below edges) v.consumer.geom (owner edges p) (stored ns)
        → is_too_deep (attach (graph_of gs edges) n p) ≡ is_high (kinds gs) (stored ns)
    on-deep ns same joinable =
        let local : (x : ℕ)
        → rank_from (stored ns) (switched (Some p)) x
        ≡ above (below (switched (Some p))) (rank_from (stored ns) (switched (Some p))) x =
        rank_from-local (switched (Some p)) first.bare (stored ns)
        (joinable.local (ranked_below (switched (Some p))) on-joined) in
        let deep : is_too_deep (graph_of gs (switched (Some p))) ≡ is_high (kinds gs) (stored ns) =
        deep-is gs (switched (Some p)) (rank_from (stored ns) (switched (Some p)))
        (rank-is gs (switched (Some p)) (rank_from (stored ns) (switched (Some p))) local (on-few ns same joinable))
        ∙ rank_from-high (switched (Some p)) (stored ns) (kinds gs) first.granted in
        rw on-graph at deep

    -- where the consumer's geom may have the other below it, the other doesn't reach it
    no_loop : (f : ℕ → ℕ) → IsJoinable (ranked_below edges) v.consumer.geom (owner edges p) f
        → reaches (graph_of gs edges) (owner edges p) v.consumer.geom ≡ false
    no_loop f joinable =
        false_from_ne_true (reaches (graph_of gs edges) (owner edges p) v.consumer.geom)
        (λ e. joinable.apart
        (stands-down edges first.bare (owner edges p) v.consumer.geom (owner-later edges first.bare p offered)
        (reaches-stands gs edges (owner edges p) v.consumer.geom e)))

    -- what an attach answers
    pub on-loops : is_errored (graph_of gs edges) p ≡ false
        → StandsAbove (ranked_below edges) (owner edges p) v.consumer.geom
        → attach_refusal (graph_of gs edges) n p ≡ Some ELOOP
    on-loops sound stands =
        let loops : reaches (graph_of gs edges) (owner edges p) v.consumer.geom ≡ true =
        stands-reaches gs edges (rank_from (stored gs) edges)
        (rank_from-local edges first.bare (stored gs) mesh.standing.local)
        (rank_from-most gs edges live mesh first) (owner edges p) v.consumer.geom
        (stands-up edges (owner edges p) v.consumer.geom stands)
        in rw (sound, loop_is offered, loops) refl

    -- where a geom would be too deep, it is refused with EDEEP
    pub on-high : (ns : SlotsView (GeomCell C)) → is_errored (graph_of gs edges) p ≡ false → bare ns ≡ bare gs
        → IsJoinable (ranked_below edges) v.consumer.geom (owner edges p) (stored ns)
        → is_high (kinds gs) (stored ns) ≡ true → attach_refusal (graph_of gs edges) n p ≡ Some EDEEP
    on-high ns sound same joinable high =
        rw (sound, loop_is offered, no_loop (stored ns) joinable, on-deep ns same joinable, high) refl

    -- where no loop would arise and no geom be too deep, it isn't refused
    pub on-free : (ns : SlotsView (GeomCell C)) → is_errored (graph_of gs edges) p ≡ false → bare ns ≡ bare gs
        → IsJoinable (ranked_below edges) v.consumer.geom (owner edges p) (stored ns)
        → is_high (kinds gs) (stored ns) ≡ false → attach_refusal (graph_of gs edges) n p ≡ None
    on-free ns sound same joinable low =
        rw (sound, loop_is offered, no_loop (stored ns) joinable, on-deep ns same joinable, low) refl

    -- why an attach is refused
    pub on-refused : (e : AttachRefusal) → is_errored (graph_of gs edges) p ≡ false
        → IsRefusedFor e gs (ranked_below edges) v.consumer.geom (owner edges p)
        → attach_refusal (graph_of gs edges) n p ≡ Some (attach_errno e)
    on-refused Enxio sound never = absurd never
    on-refused Eloop sound stands = on-loops sound stands
    on-refused Edeep sound high = on-high high.0 sound high.1 high.2 high.3

  module _ (is : v.consumer.prov ≡ None) (offered : IsSome (value_at (offers edges).rows p))
      (first : HaveDevAndTaste gs edges) (ns : SlotsView (GeomCell C)) (same : bare ns ≡ bare gs)
      (admitted : IsAdmitted (is_dev_or_taste v.consumer.geom) (ranked_below edges) v.consumer.geom (owner edges p)
      (stored gs) (stored ns)) (low : is_high (kinds gs) (stored ns) ≡ false) where
    -- nothing reaches one of the first two geoms
    first_unreached : is_dev_or_taste v.consumer.geom ≡ true
        → reaches (graph_of gs edges) (owner edges p) v.consumer.geom ≡ false
    first_unreached here =
        false_from_ne_true (reaches (graph_of gs edges) (owner edges p) v.consumer.geom)
        (λ e.
        let stands : is_dev_or_taste (owner edges p) ≡ true =
        reaches-stands gs edges (owner edges p) v.consumer.geom e is_dev_or_taste here
        (λ y h near is. (let never : true ≡ false = sym is ∙ below-later edges first.bare y h near in
        absurd (cc))) in
        let never : true ≡ false = sym stands ∙ owner-later edges first.bare p offered in cc)

    -- the mesh stands with the consumer attached
    pub admitted-mesh : HaveRanks ns (switched (Some p)) live
    admitted-mesh =
        search (rules, mesh-kept gs ns (switched (Some p)) live, first-switched (Some p), on-mesh is offered first)

    -- and the attach isn't refused, where the provider carries no error
    pub admitted-free : is_errored (graph_of gs edges) p ≡ false → attach_refusal (graph_of gs edges) n p ≡ None
    admitted-free sound = elim (cases_Bool (is_dev_or_taste v.consumer.geom)) [
      | inl e ↦
          let deep : is_too_deep (attach (graph_of gs edges) n p) ≡ false =
          rw on-graph at
          (mesh-low gs (switched (Some p)) live (first-switched (Some p) e)
          (record { listed = first.listed; granted = first.granted; bare = first.bare })) in
          rw (sound, loop_is offered, first_unreached e, deep) refl
      | inr e ↦ on-free is offered first e ns sound same (rw e at admitted) low
    ]

module _ {C : Type 0} (gs : SlotsView (GeomCell C)) (edges : Edges) where
  -- a consumer that is attached to nothing has its cell
  pub free-cell : (n : ℕ) → IsSomeAnd (consumer_at (graph_of gs edges) n) (λ x. x.provider ≡ None)
      → (v : ConsCell) × (Some v ≡ value_at edges.consumers.rows n) × (v.consumer.prov ≡ None)
  free-cell n there = search (rules, consumer_at-view gs edges n)

  -- a provider that is there is offered
  pub provider-offered : (p : ℕ) → IsSome (provider_at (graph_of gs edges) p) → IsSome (value_at (offers edges).rows p)
  provider-offered p there =
      search (rules, value_at-rows_with owner_of p edges.providers.rows, provider_at-view gs edges p)

  -- the geom of a consumer, by its cell
  pub user-cell : (n : ℕ) (v : ConsCell) → Some v ≡ value_at edges.consumers.rows n → user edges n ≡ v.consumer.geom
  user-cell n v at = rw (value_at-rows_with ranked_link_of n edges.consumers.rows, ← at) refl

  -- and it is attached to nothing
  pub free-at : (n : ℕ) (v : ConsCell) → IsSomeAnd (consumer_at (graph_of gs edges) n) (λ x. x.provider ≡ None)
      → Some v ≡ value_at edges.consumers.rows n → v.consumer.prov ≡ None
  free-at n v there at = rw (consumer_at-view gs edges n, ← at) at there

  -- a consumer that is attached to something is so by its cell
  pub bound-at : (n : ℕ) (v : ConsCell) → IfSome (consumer_at (graph_of gs edges) n) (λ x. IsSome x.provider)
      → Some v ≡ value_at edges.consumers.rows n → v.consumer.prov ≡ None → ⊥
  bound-at n v there at none = search (rules, consumer_at-view gs edges n)
