-- Ranks where a geom without providers gets consumers: DEV at an open, TASTE at a taste, a new geom over its
-- components.
use Rattle.std.specs.Prelude.{◌≡◌, ◌≢◌, ℕ, ◌+◌, ◌==◌, max, false, List, [], ◌∷◌, length, map, fold, Some, None, All, Contains, IsSome}
use Rattle.std.specs.List.{AllByRecursion}
use Rattle.std.proofs.Common.{refl, ◌∙◌, ap, subst, arith}
use Rattle.std.proofs.lemmas.Bool.{eqb-true, eq-eqb}
use Rattle.std.proofs.lemmas.List.Elements.{recursion_from_All}
use Rattle.geo_model.proofs.Options.{none-there}
use Rattle.geo_model.specs.Kind.{Kind}
use Rattle.geo_model.specs.Words.{largest}
use Rattle.geo_model.specs.Topology.{Topology, Geom, Provider, Consumer, geom_at, provider_at, providers_of, add_geom, add_consumer}
use Rattle.geo_model.specs.Rank.{rank, geoms_under, Ranked}
use Rattle.geo_model.specs.World.{Config}
use Rattle.geo_model.specs.GeomCommands.{with_geom_at, rank_over}
use Rattle.geo_model.proofs.DemandLemmas.{rank_within-positive, no_items, map_same, all_weaker}
use Rattle.geo_model.proofs.RankLemmas.{rank-largest}
use Rattle.geo_laws_graph.proofs.Members.{find-Contains, All-from_contained, Contains-filter, filter-Contains, at_contained, nothing_in}
use Rattle.geo_laws_graph.proofs.Lists.{found_fresh}
use Rattle.geo_laws_graph.proofs.Found.{added-geom}
use Rattle.geo_laws_graph.specs.RankLaws.{RanksStay, RanksRise}
use Rattle.geo_laws_graph.specs.RankChangeLaws.{OneRankRises}
use Rattle.geo_laws_graph.proofs.Climbing.{below-from_under}
use Rattle.geo_laws_graph.proofs.EdgeRanks.{reaches-none}
use Rattle.geo_laws_graph.proofs.RankChanges.{opening-rises, adding-stay}
use Rattle.geo_model.specs.Graph.{OfferersLive, GeomsLive, IsInOrder}
use Rattle.geo_laws_graph.proofs.Living.{add_geom-geoms, add_consumer-geoms}

module _ {C : Type 0} (t : Topology C) (geom p : ℕ) (x : Provider) (ranked : Ranked t) (live : GeomsLive t)
    (there : IsSome (geom_at t geom))
    (none : providers_of t geom ≡ []) (found : provider_at t p ≡ Some x) where
  -- the provider isn't of the geom that has none
  offers_other : x.geom ≢ geom
  offers_other same =
      nothing_in x
      (subst (λ (ys : List Provider). Contains ys x) none
      (Contains-filter (λ (y : Provider). y.geom == geom) t.providers x
      (find-Contains (λ (y : Provider). y.number == p) t.providers x found) (eq-eqb x.geom geom same)))

  -- so the new consumer makes no loop, and the ranks rise as by one edge more
  raised : RanksRise t (add_consumer t geom (Some p)) geom x.geom
  raised = opening-rises t geom p x ranked live there found (reaches-none t x.geom geom none offers_other)

  -- only the rank of the geom without providers can rise
  pub open-rises : OneRankRises t (add_consumer t geom (Some p)) geom
      × (rank (add_consumer t geom (Some p)) geom ≡ max (rank t geom) (1 + rank t x.geom))
  open-rises = (
    record { ranked = raised.ranked; same = λ g apart. raised.elsewhere g (reaches-none t g geom none apart) },
    raised.above,
  )

  -- and the provider's geom is another one
  pub open-other : x.geom ≢ geom
  open-other = offers_other

-- the consumers that a new geom gets, one after another
abbrev pub over : {C : Type 0} → ℕ → Topology C → List Provider → Topology C
over n t ps = fold (λ u (p : Provider). add_consumer u n (Some p.number)) t ps

module _ {C : Type 0} (n : ℕ) where
  -- the rank of the geom over them
  pub over-ranks : (ps : List Provider) (t : Topology C) → Ranked t → GeomsLive t → IsSome (geom_at t n)
      → providers_of t n ≡ []
      → AllByRecursion (λ (p : Provider). provider_at t p.number ≡ Some p) ps
      → OneRankRises t (over n t ps) n
      × (rank (over n t ps) n ≡ max (rank t n) (1 + largest (map (λ (p : Provider). rank t p.geom) ps)))
  over-ranks [] t ranked live there none found = (
    record { ranked = ranked; same = λ g apart. refl },
    (let some = rank_within-positive (length t.geoms) t n in
        omega arith),
  )
  over-ranks (p ∷ ps) t ranked live there none found =
      let u : Topology C = add_consumer t n (Some p.number) in
      let first = open-rises t n p.number p ranked live there none found.0 in
      let rest = over-ranks ps u first.0.ranked (add_consumer-geoms t n (Some p.number) there live) there
      none found.1 in
      let same : (q : Provider) → provider_at t q.number ≡ Some q → rank u q.geom ≡ rank t q.geom =
      λ q is. first.0.same q.geom (open-other t n q.number q ranked live there none is) in
      let others : map (λ (q : Provider). rank u q.geom) ps ≡ map (λ (q : Provider). rank t q.geom) ps =
      map_same (λ (q : Provider). rank u q.geom) (λ (q : Provider). rank t q.geom) ps
      (all_weaker (λ (q : Provider). provider_at t q.number ≡ Some q) (λ (q : Provider). rank u q.geom
      ≡ rank t q.geom) same ps found.1) in
      let lower : largest (map (λ (q : Provider). rank u q.geom) ps)
      ≡ largest (map (λ (q : Provider). rank t q.geom) ps) = ap largest others in
      let one : rank u n ≡ max (rank t n) (1 + rank t p.geom) = first.1 in
      let all : rank (over n u ps) n
      ≡ max (rank u n) (1 + largest (map (λ (q : Provider). rank u q.geom) ps)) = rest.1 in
      (record { ranked = rest.0.ranked; same = λ g apart. rest.0.same g apart ∙ first.0.same g apart }, omega arith)

module _ {C : Type 0} (t : Topology C) (order : IsInOrder t) where
  -- the next geom doesn't live yet
  not_yet : (g : ℕ) → g ≡ t.next_geom → IsSome (geom_at t g) → ⊥
  not_yet g same lives =
      let none : geom_at t t.next_geom ≡ None =
      found_fresh (λ (y : Geom C). y.number) t.next_geom t.next_geom t.geoms order.geoms (omega arith) in
      let here : IsSome (geom_at t t.next_geom) = subst (λ (n : ℕ). IsSome (geom_at t n)) same lives in
      none-there (geom_at t t.next_geom) none here

  -- so it offers nothing, and nothing is below it
  pub offers-nothing : OfferersLive t → providers_of t t.next_geom ≡ []
  offers-nothing live =
      no_items (providers_of t t.next_geom)
      (All-from_contained (λ y. ⊥) (providers_of t t.next_geom)
      (λ y here.
      let both = filter-Contains (λ (z : Provider). z.geom == t.next_geom) t.providers y here in
      not_yet y.geom (eqb-true y.geom t.next_geom both.1)
      (at_contained (λ (z : Provider). IsSome (geom_at t z.geom)) t.providers y
      (recursion_from_All (λ (z : Provider). IsSome (geom_at t z.geom)) t.providers live) both.0)))

  -- nor is anything below it
  nothing_below : GeomsLive t → geoms_under t t.next_geom ≡ []
  nothing_below live =
      no_items (geoms_under t t.next_geom)
      (All-from_contained (λ h. ⊥) (geoms_under t t.next_geom)
      (λ h here.
      let b = below-from_under t t.next_geom h here in
      not_yet b.consumer.geom b.above
      (at_contained (λ (z : Consumer). IsSome (geom_at t z.geom)) t.consumers b.consumer
      (recursion_from_All (λ (z : Consumer). IsSome (geom_at t z.geom)) t.consumers live) b.stands)))

  -- so its rank would be 1
  pub rank-next : Ranked t → GeomsLive t → rank t t.next_geom ≡ 1
  rank-next ranked live = rank-largest t ranked t.next_geom
      ∙ ap (λ hs. 1 + largest (map (rank t) hs)) (nothing_below live)

module _ (t : Topology Config) (kind : Kind) (name : List ℕ) (config : Config) where
  -- the graph with the new geom, before it has consumers
  abbrev grown : Topology Config
  grown = add_geom t kind name config false

  -- the rank of a geom that is made over some providers
  pub made-ranks : (ps : List Provider) → Ranked t → GeomsLive t → OfferersLive t → IsInOrder t
      → All (λ (p : Provider). provider_at t p.number ≡ Some p) ps
      → OneRankRises t (with_geom_at t kind name config ps) t.next_geom
      × (rank (with_geom_at t kind name config ps) t.next_geom ≡ rank_over t ps)
  made-ranks ps ranked live offerers order found =
      let stay : RanksStay t grown = adding-stay.geom t kind name config false ranked live in
      let new = added-geom.new t kind name config false order in
      let there : IsSome (geom_at grown t.next_geom) = rw new refl in
      let all = over-ranks t.next_geom ps grown stay.ranked (add_geom-geoms t kind name config false live) there
      (offers-nothing t order offerers)
      (recursion_from_All (λ (p : Provider). provider_at t p.number ≡ Some p) ps found) in
      let before : map (λ (p : Provider). rank grown p.geom) ps ≡ map (λ (p : Provider). rank t p.geom) ps =
      map_same (λ (p : Provider). rank grown p.geom) (λ (p : Provider). rank t p.geom) ps
      (All-from_contained (λ (p : Provider). rank grown p.geom ≡ rank t p.geom) ps (λ p here. stay.same p.geom)) in
      let lower : largest (map (λ (p : Provider). rank grown p.geom) ps)
      ≡ largest (map (λ (p : Provider). rank t p.geom) ps) = ap largest before in
      let one : rank grown t.next_geom ≡ 1 = stay.same t.next_geom ∙ rank-next t order ranked live in
      let top : rank (with_geom_at t kind name config ps) t.next_geom
      ≡ max (rank grown t.next_geom) (1 + largest (map (λ (p : Provider). rank grown p.geom) ps)) = all.1 in
      (record { ranked = all.0.ranked; same = λ g apart. all.0.same g apart ∙ stay.same g }, omega arith)
