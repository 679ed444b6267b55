-- The ranks that stand in the cells are the model's, and what an attach and a detach do to them.
use Rattle.std.specs.Prelude.{◌≡◌, ℕ, ◌+◌, ◌-◌, ◌<◌, ◌≤◌, ◌==◌, nat_lt, Bool, true, false, not, ◌&&◌, List, [], ◌∷◌, ◌++◌, Option, Some, None, IsSome, IfSome, map, filter, filter_map, length, option_map}
use Rattle.std.specs.List.{list_any, AllByRecursion}
use Rattle.std.proofs.Common.{refl, sym, ap, ◌∙◌, subst, arith, rules}
use Rattle.std.proofs.lemmas.List.{length-map, map-append, length-append}
use Rattle.geo_model.specs.Kind.{Kind}
use Rattle.geo_model.proofs.Tests.{filter_map-same}
use Rattle.geo_model.specs.TheConstants.{MAX_RANK}
use Rattle.geo_model.specs.Words.{is_granted_kind, names_number}
use Rattle.geo_model.specs.Topology.{Geom, Provider, Consumer, geom_at, provider_at, consumer_at, consumers_of, attached_to}
use Rattle.geo_model.specs.Rank.{rank, geoms_under, reaches, is_too_deep}
use Rattle.geo_slots.specs.Slots.{SlotsView, IsRising, value_at, with_value, without}
use Rattle.geo_mesh.specs.declared.records.GeomCell.{GeomCell}
use Rattle.geo_mesh.specs.declared.records.ProvCell.{ProvCell}
use Rattle.geo_mesh.specs.declared.records.ConsCell.{ConsCell}
use Rattle.geo_mesh.specs.declared.tables.Edges.{Edges}
use Rattle.geo_mesh.specs.declared.tables.Tables.{Tables}
use Rattle.geo_mesh.specs.Rows.{row_with, rows_with}
use Rattle.geo_mesh.specs.Cells.{graph_of, topo_view, put_consumer, put_provider, geom_seen, geom_row, consumer_row}
use Rattle.geo_mesh.specs.Mending.{IsAmong, StandsAbove, ExceedsThoseBelow, Joined, above, height}
use Rattle.geo_mesh.specs.Index.{no_index}
use Rattle.geo_mesh.specs.Ranks.{IsKin, provs_of, kind_of, rank_of, owner, owner_of, ranked_link_of, links_of, kinds, ranks, stored, offers, ranked_links, rank_at, under, ranked_below, below, rank_from, is_high, IsWalkable, HaveRanks, HaveDevAndTaste, bare, OwnerLives, UserLives}
use Rattle.geo_mesh.proofs.RowLemmas.{rows_kept, map-bare, map-without, rows_with-with_value, value_at-rows_with}
use Rattle.geo_mesh.proofs.ViewLemmas.{geom_at-view, provider_at-view, consumer_at-view, count_falls, count-with_value}
use Rattle.geo_mesh.proofs.RankHeights.{local-climbs, local-height, local-few, height-climbs, rank-height, reached-stands, stands-reached}
use Rattle.geo_mesh.proofs.RankRows.{peak-is, peak-with, all-at, rising-with, with_value-same, kinds-bare, NotAttached, NotOwned, ranks-new_consumer, ranks-destroy_consumer, ranks-new_provider, ranks-destroy_provider, ranks-new_geom, ranks-destroy_geom}
use Rattle.geo_mesh.proofs.RankFirst.{footing-unnamed, rank_from-local, rank_from-few, rank_from-high}
use Rattle.geo_slots.proofs.RowLemmas.{value_at_next}
use Rattle.geo_mesh.specs.declared.records.Scratch.{Scratch}

module _ {C : Type 0} (gs : SlotsView (GeomCell C)) (edges : Edges) where
  -- the providers to which the consumers of a geom are attached, by the rows
  provs_under : (g : ℕ) (rows : List (ℕ × ConsCell))
      → filter_map (λ (x : Consumer). x.provider) (filter (λ (x : Consumer). x.geom == g) (map consumer_row rows))
      ≡ provs_of (rows_with links_of rows) g
  provs_under g [] = refl
  provs_under g (row ∷ rows) = grind (arith, provs_under g rows)

  -- the geom of a provider, by the rows
  owner_seen : (p : ℕ)
      → option_map (λ (x : Provider). x.geom) (provider_at (graph_of gs edges) p) ≡ value_at (offers edges).rows p
  owner_seen p = search (rules, provider_at-view gs edges p, value_at-rows_with owner_of p edges.providers.rows)

  -- the geoms directly below a geom, by the rows
  pub under-graph : (g : ℕ) → geoms_under (graph_of gs edges) g ≡ below edges g
  under-graph g =
      filter_map-same (λ p. option_map (λ (x : Provider). x.geom) (provider_at (graph_of gs edges) p))
      (value_at (offers edges).rows) owner_seen
      (filter_map (λ (x : Consumer). x.provider)
      (filter (λ (x : Consumer). x.geom == g) (map consumer_row edges.consumers.rows)))
      ∙ ap (filter_map (value_at (offers edges).rows)) (provs_under g edges.consumers.rows)

  -- a geom with a rank above 1 has a cell
  pub stored-listed : (rows : List (ℕ × GeomCell C)) (g : ℕ) → 2 ≤ rank_at (rows_with (rank_of {C = C}) rows) g
      → IsAmong (map (λ row. row.0) rows) g
  stored-listed [] g high = absurd (omega arith)
  stored-listed (row ∷ rows) g high = search (rules, stored-listed rows g)

  -- ranks that are one more than the highest below are at most one more than there are geoms
  pub stored-few : (users : ℕ → List ℕ) → ((x : ℕ) → stored gs x ≡ above users (stored gs) x) → (x : ℕ)
      → stored gs x ≤ length gs.rows + 1
  stored-few users local x =
      let few : stored gs x ≤ length (map (λ (row : ℕ × GeomCell C). row.0) gs.rows) + 1 =
      local-few (stored gs) users (map (λ row. row.0) gs.rows) local (stored-listed gs.rows) x in
      rw (length-map gs.rows (λ (row : ℕ × GeomCell C). row.0)) at few

  -- a function that is one more than its largest value below, with few values, is the rank
  pub rank-is : (f : ℕ → ℕ) → ((x : ℕ) → f x ≡ above (below edges) f x) → ((x : ℕ) → f x ≤ length gs.rows + 1)
      → (x : ℕ) → rank (graph_of gs edges) x ≡ f x
  rank-is f local few x =
      rank-height (graph_of gs edges) (below edges) under-graph (length (map geom_row gs.rows)) x
      ∙ local-height (below edges) f local (length (map geom_row gs.rows)) x (rw (length-map gs.rows geom_row) (few x))

  -- whether a geom would be too deep, by the classes
  pub deep-is : (f : ℕ → ℕ) → ((x : ℕ) → rank (graph_of gs edges) x ≡ f x)
      → is_too_deep (graph_of gs edges) ≡ is_high (kinds gs) f
  deep-is f same = each (rank (graph_of gs edges)) same gs.rows where
    each : (r : ℕ → ℕ) → ((x : ℕ) → r x ≡ f x) → (rows : List (ℕ × GeomCell C))
        → list_any (λ (x : Geom C). not (is_granted_kind x.kind) && nat_lt MAX_RANK (r x.number))
        (map geom_row rows) ≡ is_high (rows_with (kind_of {C = C}) rows) f
    each r same [] = refl
    each r same (row ∷ rows) = rw (same row.0, each r same rows) refl

  module _ (f : ℕ → ℕ) (local : (x : ℕ) → f x ≡ above (below edges) f x) (few : (x : ℕ)
      → f x ≤ length gs.rows + 1) where
    -- the values, each less by one, still climb
    lowered_climbs : ExceedsThoseBelow (geoms_under (graph_of gs edges)) (λ x. f x - 1)
    lowered_climbs x h there = search (rules, under-graph x, local-climbs (below edges) f local x h)

    -- what stands above a geom reaches it downwards
    pub stands-reaches : (x g : ℕ) → StandsAbove (below edges) x g → reaches (graph_of gs edges) x g ≡ true
    stands-reaches x g stands =
        stands-reached (graph_of gs edges) (λ x. f x - 1) lowered_climbs (length (map geom_row gs.rows)) x g
        (λ y. rw (length-map gs.rows geom_row) (omega (arith, few y)))
        (λ has at so.
        stands has at (λ y h there is. so y h (subst (λ ms. IsAmong ms h) (sym (under-graph y)) there) is))

  -- what reaches a geom downwards stands above it
  pub reaches-stands : (x g : ℕ) → reaches (graph_of gs edges) x g ≡ true → StandsAbove (below edges) x g
  reaches-stands x g there =
      let stands : StandsAbove (geoms_under (graph_of gs edges)) x g =
      reached-stands (graph_of gs edges) (length (map geom_row gs.rows)) x g there in
      λ has at so. stands has at (λ y h near is. so y h (subst (λ ms. IsAmong ms h) (under-graph y) near) is)

  module _ (live : ℕ) (mesh : HaveRanks gs edges live) where
    module _ (first : HaveDevAndTaste gs edges) where
      -- the ranks are at most one more than there are geoms
      pub rank_from-most : (x : ℕ) → rank_from (stored gs) edges x ≤ length gs.rows + 1
      rank_from-most x =
          let few : rank_from (stored gs) edges x ≤ length (map (λ (row : ℕ × GeomCell C). row.0) gs.rows) + 1 =
          rank_from-few edges first.bare (stored gs) mesh.standing.local
          (map (λ (row : ℕ × GeomCell C). row.0) gs.rows) first.listed (stored-listed gs.rows) x in
          rw (length-map gs.rows (λ (row : ℕ × GeomCell C). row.0)) at few

      -- the ranks that stand in the cells, and those found from them, are the model's
      pub rank_from-rank : (x : ℕ) → rank (graph_of gs edges) x ≡ rank_from (stored gs) edges x
      rank_from-rank x =
          rank-is (rank_from (stored gs) edges) (rank_from-local edges first.bare (stored gs) mesh.standing.local)
          rank_from-most x

      -- no geom is too deep
      pub mesh-low : is_too_deep (graph_of gs edges) ≡ false
      mesh-low = deep-is (rank_from (stored gs) edges) rank_from-rank
          ∙ rank_from-high edges (stored gs) (kinds gs) first.granted ∙ mesh.standing.low

    -- each rank that stands in a cell fits in 32 bits
    pub mesh-few : (x : ℕ) → stored gs x ≤ 4294967295
    mesh-few x =
        omega (arith, stored-few (ranked_below edges) mesh.standing.local x, mesh.count.counted, mesh.count.few)

    -- the mesh may be walked over
    pub mesh-walkable : IsKin edges → IsWalkable (kinds gs) edges
    mesh-walkable kin = record {
      kin = kin;
      climbs = height-climbs (ranked_below edges) (stored gs)
          (local-climbs (ranked_below edges) (stored gs) mesh.standing.local)
          (λ x. omega (arith, mesh.standing.local x)) (length (kinds gs))
          (λ x. rw (length-map gs.rows (row_with (kind_of {C = C})))
          (stored-few (ranked_below edges) mesh.standing.local x));
      owned = mesh.standing.owned;
      few = rw (length-map gs.rows (row_with (kind_of {C = C}))) (omega (arith, mesh.count.counted, mesh.count.few));
    }

-- a graph in which a consumer is attached to nothing, and the same with it attached
pub joined-users : (owners : List (ℕ × ℕ)) (users : List (ℕ × (ℕ × Option ℕ))) (c x p q high : ℕ)
    → IsRising 1 users high → IsSome (value_at users c) → value_at owners p ≡ Some q
    → Joined (under owners (with_value users c (x, None))) (under owners (with_value users c (x, Some p))) x q
joined-users owners users c x p q high rising there owner = search (rules, peak-is owners, peak-with owners)

-- a fact of each row, after another value was put under a number
pub all-with_value : {T : Type 0} (P : ℕ × T → Type 0) (n : ℕ) (w : T) (rows : List (ℕ × T)) → P (n, w)
    → AllByRecursion P rows → AllByRecursion P (with_value rows n w)
all-with_value P n w [] here facts = tt
all-with_value P n w (row ∷ rows) here facts = search (rules, all-with_value P n w rows here facts.1)

-- the same bound, by the classes
pub stored-bound : {C : Type 0} (gs : SlotsView (GeomCell C)) (users : ℕ → List ℕ)
    → ((x : ℕ) → stored gs x ≡ above users (stored gs) x) → (x : ℕ) → stored gs x ≤ length (kinds gs) + 1
stored-bound {C} gs users local x =
    let none : Edges =
    record {
      providers = record { rows = []; next = 0; spare = 0 };
      consumers = record { rows = []; next = 0; spare = 0 };
      index = no_index;
    } in
    search (rules, stored-few gs none users local x, length-map gs.rows (row_with (kind_of {C = C})))

-- ranks that are one more than the highest below are told by the graph
pub stored-unique : {C : Type 0} (gs ns : SlotsView (GeomCell C)) (users : ℕ → List ℕ) → bare ns ≡ bare gs
    → ((x : ℕ) → stored gs x ≡ above users (stored gs) x) → ((x : ℕ) → stored ns x ≡ above users (stored ns) x)
    → (x : ℕ) → stored ns x ≡ stored gs x
stored-unique gs ns users same local again x =
    let count : length (kinds ns) ≡ length (kinds gs) = ap length (kinds-bare gs ns same) in
    let one : height users (length (kinds gs)) x ≡ stored gs x =
    local-height users (stored gs) local (length (kinds gs)) x (stored-bound gs users local x) in
    let two : height users (length (kinds gs)) x ≡ stored ns x =
    local-height users (stored ns) again (length (kinds gs)) x (omega (arith, stored-bound ns users again x)) in
    omega arith

-- the mesh stands as it did after a change of one row that leaves classes, ranks and the graph
module _ {C : Type 0} (gs : SlotsView (GeomCell C)) (edges : Edges) (live n : ℕ) (mesh : HaveRanks gs edges live) where
  -- after a change of a geom that leaves its class and its rank
  pub mesh-geom : (v w : GeomCell C) → IsRising 1 gs.rows gs.next → Some v ≡ value_at gs.rows n
      → kind_of w ≡ kind_of v → rank_of w ≡ rank_of v
      → HaveRanks (record gs { rows = with_value gs.rows n w }) edges live
  mesh-geom v w rising at kind rank =
      search (
        rules,
        count-with_value n w gs.rows live mesh.count,
        rows_kept gs n v w rising (sym at) (row_with (kind_of {C = C})) (λ i. (n, kind i)),
        rows_kept gs n v w rising (sym at) (row_with (rank_of {C = C})) (λ i. (n, rank i)),
      )

  -- after a change of a provider that leaves its geom
  pub mesh-provider : (v w : ProvCell) → IsRising 1 edges.providers.rows edges.providers.next
      → Some v ≡ value_at edges.providers.rows n → owner_of w ≡ owner_of v
      → HaveRanks gs (put_provider edges n w) live
  mesh-provider v w rising at owner =
      search (rules, rows_kept edges.providers n v w rising (sym at) (row_with owner_of) (λ i. (n, owner i)))

  -- after a change of a consumer that leaves its geom and where it is attached
  pub mesh-consumer : (v w : ConsCell) → IsRising 1 edges.consumers.rows edges.consumers.next
      → Some v ≡ value_at edges.consumers.rows n → ranked_link_of w ≡ ranked_link_of v
      → HaveRanks gs (put_consumer edges n w) live
  mesh-consumer v w rising at ends =
      search (rules, rows_kept edges.consumers n v w rising (sym at) (row_with ranked_link_of) (λ i. (n, ends i)))

module _ {C : Type 0} (gs : SlotsView (GeomCell C)) (edges : Edges) (live : ℕ) where
  -- a geom that is there has a class
  pub lives-kinds : (g : ℕ) → IsSome (geom_at (graph_of gs edges) g) → IsSome (value_at (kinds gs) g)
  lives-kinds g lives = search (rules, geom_at-view gs edges g, value_at-rows_with (kind_of {C = C}) g gs.rows)

  module _ (mesh : HaveRanks gs edges live) where
    -- the mesh stands with a new consumer, which is attached to nothing
    pub mesh-new_consumer : (n g next spare : ℕ) (v : ConsCell) → ranked_link_of v ≡ (g, None)
        → IsSome (value_at (kinds gs) g)
        → HaveRanks gs
        (record edges {
          consumers =
              record { rows = edges.consumers.rows ++ (n, v) ∷ []; next = next; spare = spare };
        }) live
    mesh-new_consumer n g next spare v is lives =
        search (
          rules,
          map-append (row_with ranked_link_of) edges.consumers.rows ((n, v) ∷ []),
          ranks-new_consumer (kinds gs) (ranks gs) (offers edges).rows (ranked_links edges).rows mesh.standing n g
              lives,
        )

    -- the mesh stands with a new provider
    pub mesh-new_provider : (n next spare : ℕ) (v : ProvCell)
        → HaveRanks gs
        (record edges {
          providers =
              record { rows = edges.providers.rows ++ (n, v) ∷ []; next = next; spare = spare };
        }) live
    mesh-new_provider n next spare v =
        search (
          rules,
          map-append (row_with owner_of) edges.providers.rows ((n, v) ∷ []),
          ranks-new_provider (kinds gs) (ranks gs) (offers edges).rows (ranked_links edges).rows mesh.standing n
              (owner_of v),
        )

    -- the mesh stands with a new geom of rank 1
    pub mesh-new_geom : (next spare : ℕ) (v : GeomCell C) → rank_of v ≡ 1 → IsRising 1 gs.rows gs.next
        → live < 4294967294
        → HaveRanks (record { rows = gs.rows ++ (gs.next, v) ∷ []; next = next; spare = spare }) edges (live + 1)
    mesh-new_geom next spare v is rising few =
        search (
          rules,
          map-append (row_with (kind_of {C = C})) gs.rows ((gs.next, v) ∷ []),
          map-append (row_with (rank_of {C = C})) gs.rows ((gs.next, v) ∷ []),
          length-append gs.rows ((gs.next, v) ∷ []),
          ranks-new_geom (kinds gs) (ranks gs) (offers edges).rows (ranked_links edges).rows mesh.standing gs.next
              (kind_of v)
              (value_at_next gs.next 1 (ranks gs) gs.next (rising-with (rank_of {C = C}) 1 gs.next gs.rows rising)
              (omega arith)),
        )

    -- the mesh stands without a consumer that is attached to nothing
    pub mesh-destroy_consumer : (n : ℕ) → IsRising 1 edges.consumers.rows edges.consumers.next
        → IfSome (consumer_at (graph_of gs edges) n) (λ x. x.provider ≡ None)
        → HaveRanks gs
        (record edges { consumers = record edges.consumers { rows = without edges.consumers.rows n } }) live
    mesh-destroy_consumer n rising free =
        search (
          rules,
          map-without (row_with ranked_link_of) n (λ (row : ℕ × (ℕ × Option ℕ)). row.0 == n) (λ row. refl)
              edges.consumers.rows,
          ranks-destroy_consumer (kinds gs) (ranks gs) (offers edges).rows (ranked_links edges).rows mesh.standing n
              edges.consumers.next (rising-with ranked_link_of 1 edges.consumers.next edges.consumers.rows rising),
          value_at-rows_with ranked_link_of n edges.consumers.rows,
          consumer_at-view gs edges n,
        )

    -- where no consumer passes a test, what follows of each row holds
    none_passes : (test : Consumer → Bool) (P : ℕ × (ℕ × Option ℕ) → Type 0)
        → ((row : ℕ × ConsCell) → test (consumer_row row) ≡ false → P (row_with ranked_link_of row))
        → (rows : List (ℕ × ConsCell)) → filter test (map consumer_row rows) ≡ []
        → AllByRecursion P (rows_with ranked_link_of rows)
    none_passes test P so [] none = tt
    none_passes test P so (row ∷ rows) none = search (rules, none_passes test P so rows)

    -- the mesh stands without a provider to which nothing is attached
    pub mesh-destroy_provider : (n : ℕ) → attached_to (graph_of gs edges) n ≡ []
        → HaveRanks gs
        (record edges { providers = record edges.providers { rows = without edges.providers.rows n } }) live
    mesh-destroy_provider n none =
        search (
          rules,
          map-without (row_with owner_of) n (λ (row : ℕ × ℕ). row.0 == n) (λ row. refl) edges.providers.rows,
          ranks-destroy_provider (kinds gs) (ranks gs) (offers edges).rows (ranked_links edges).rows mesh.standing n
              (none_passes (λ x. names_number x.provider n) (NotAttached n)
              (λ row e. footing-unnamed row.1.consumer.geom n row.1.consumer.prov e) edges.consumers.rows none),
        )

    -- the mesh stands without a geom that has no consumer
    pub mesh-destroy_geom : (n next spare : ℕ) (v : GeomCell C) → IsRising 1 gs.rows gs.next
        → Some v ≡ value_at gs.rows n → consumers_of (graph_of gs edges) n ≡ []
        → HaveRanks (record { rows = without gs.rows n; next = next; spare = spare }) edges (live - 1)
    mesh-destroy_geom n next spare v rising at none =
        search (
          rules,
          map-without (row_with (kind_of {C = C})) n (λ (row : ℕ × Kind). row.0 == n) (λ row. refl) gs.rows,
          map-without (row_with (rank_of {C = C})) n (λ (row : ℕ × ℕ). row.0 == n) (λ row. refl) gs.rows,
          count_falls gs n live v rising,
          ranks-destroy_geom (kinds gs) (ranks gs) (offers edges).rows (ranked_links edges).rows mesh.standing n
              (none_passes (λ x. x.geom == n) (NotOwned n) (λ row e. e) edges.consumers.rows none),
        )

    -- another value of a consumer's ends, and other ranks
    pub mesh-switch : (ns : SlotsView (GeomCell C)) (n p : ℕ) (o : Option ℕ) (v w : ConsCell) → bare ns ≡ bare gs
        → Some v ≡ value_at edges.consumers.rows n → ranked_link_of w ≡ (v.consumer.geom, o)
        → IfSome o (λ p. IsSome (value_at (offers edges).rows p))
        → ((x : ℕ) → stored ns x ≡ above (ranked_below (put_consumer edges n w)) (stored ns) x)
        → is_high (kinds gs) (stored ns) ≡ false
        → HaveRanks ns (put_consumer edges n w) live
    mesh-switch ns n p o v w same at ends offered local low =
        search (
          rules,
          kinds-bare gs ns same,
          length-map gs.rows (row_with (kind_of {C = C})),
          length-map ns.rows (row_with (kind_of {C = C})),
          rows_with-with_value ranked_link_of n w edges.consumers.rows,
          value_at-rows_with ranked_link_of n edges.consumers.rows,
          all-with_value (UserLives (kinds gs)) n (v.consumer.geom, o) (rows_with ranked_link_of edges.consumers.rows),
          all-at (UserLives (kinds gs)) (rows_with ranked_link_of edges.consumers.rows) n (ranked_link_of v)
              mesh.standing.owned,
          all-with_value (OwnerLives (offers edges).rows) n (v.consumer.geom, o)
              (rows_with ranked_link_of edges.consumers.rows) offered mesh.standing.attached,
        )

    -- the graph with a consumer attached, beside the same with it attached to nothing
    pub switch-joined : (n p : ℕ) (v some none : ConsCell) → IsRising 1 edges.consumers.rows edges.consumers.next
        → Some v ≡ value_at edges.consumers.rows n → ranked_link_of some ≡ (v.consumer.geom, Some p)
        → ranked_link_of none ≡ (v.consumer.geom, None) → IsSome (value_at (offers edges).rows p)
        → Joined (ranked_below (put_consumer edges n none)) (ranked_below (put_consumer edges n some))
        v.consumer.geom (owner edges p)
    switch-joined n p v some none rising at is_some is_none offered =
        search (
          rules,
          rows_with-with_value ranked_link_of n some edges.consumers.rows,
          rows_with-with_value ranked_link_of n none edges.consumers.rows,
          value_at-rows_with ranked_link_of n edges.consumers.rows,
          joined-users (offers edges).rows (rows_with ranked_link_of edges.consumers.rows) n v.consumer.geom p
              (owner edges p) edges.consumers.next
              (rising-with ranked_link_of 1 edges.consumers.next edges.consumers.rows rising),
        )

-- the consumers as they stand
pub same-cells : (edges : Edges) (n : ℕ) (v : ConsCell) → IsRising 1 edges.consumers.rows edges.consumers.next
    → Some v ≡ value_at edges.consumers.rows n → put_consumer edges n v ≡ edges
same-cells edges n v rising at =
    rw (with_value-same n 1 edges.consumers.next v edges.consumers.rows rising (sym at)) refl

-- the mesh is seen without the ranks
pub view-bare : {C : Type 0} (t : Tables C) (ns : SlotsView (GeomCell C)) → bare ns ≡ bare t.geoms
    → topo_view (record t { geoms = ns }) ≡ topo_view t
view-bare {C} t ns same =
    search (
      rules,
      map-bare {Y = Geom C} (λ row. geom_seen row.0 row.1.0) t.geoms ns same,
      map-bare {Y = ℕ × Scratch} (λ row. (row.0, row.1.1)) t.geoms ns same,
    )
