-- A demand that was tried, as the walk leaves the mesh.
use Rattle.std.specs.Prelude.{◌≡◌, ℕ, zero, suc, ◌==◌, ◌≤◌, Bool, true, false, List, [], ◌∷◌, length, map, flat_map, fold, Some, IsSome, IsSomeAnd, Contains, All, if◌then◌else◌}
use Rattle.std.proofs.Common.{refl, sym, ◌∙◌, ap, subst, arith, rules}
use Rattle.std.proofs.lemmas.Bool.{eqb-true, ne_eqb}
use Rattle.geo_base.specs.declared.request.Counts.{Counts}
use Rattle.geo_base.proofs.MemberLists.{Contains-there, nothing_in, Contains-here, in_flat_map, filter_map-Contains}
use Rattle.geo_model.specs.Words.{names_number}
use Rattle.geo_model.specs.Topology.{Topology, Provider, Consumer, geom_at, provider_at, consumers_of, attached_to, providers_under}
use Rattle.geo_model.specs.Rank.{rank}
use Rattle.geo_model.specs.Opens.{below}
use Rattle.geo_model.specs.Demand.{no_counts, add_counts, sum_counts}
use Rattle.geo_model.proofs.DemandLemmas.{rank_within-positive}
use Rattle.geo_mesh.specs.Topo.{TopoView}
use Rattle.geo_mesh.specs.Graph.{IsSoundGraph}
use Rattle.geo_laws_counts.proofs.Sums.{zero-add}
use Rattle.geo_laws_counts.proofs.LimitFacts.{of_filter, all_of}
use Rattle.geo_laws_counts.proofs.Upward.{names_some}
use Rattle.geo_laws_counts.specs.WalkWords.{has_number, IsOrder, order_from, cap, set_at, gain_without}
use Rattle.geo_laws_counts.proofs.Reach.{below_self, below_closed, directly_under}
use Rattle.geo_laws_counts.proofs.Orders.{order_within, order_closed, under_lower, under-is, is-under, below_least, has_not}
use Rattle.geo_laws_counts.proofs.Flows.{flow_start, set_at-value, sum-none}
use Rattle.geo_laws_counts.proofs.Raising.{Demands, Covers}
use Rattle.geo_access.specs.declared.counts.Way.{Way}
use Rattle.geo_access.specs.declared.order.Order.{Order}
use Rattle.geo_access.specs.Tries.{had, Apart}
use Rattle.geo_access.specs.Access.{clear_scratches}
use Rattle.geo_access.specs.Views.{Gathered, gain_at, have_at, order_of, give, spread_from, gathered_from, IsTried}
use Rattle.geo_access.proofs.Walking.{offerer_lives, provider_known}
use Rattle.geo_access.proofs.Trying.{Tries, trying, trying-gain, trying-provider, order_tries}
use Rattle.geo_access.proofs.TryOut.{lives_positive, spreads_graph, the_order_is, the_order_lives, gathered_is, order_at, Spread, spread_all}

-- the tries before any geom has handed down
abbrev pub first_tries : ℕ → List ℕ → ℕ → Counts → Tries
first_tries x xs p add =
    record (order_tries x xs) { gains = set_at (λ n. no_counts) p (cap (add_counts no_counts add)) }

-- an order has no geom twice
pub order_apart : {C : Type 0} (t : Topology C) (xs : List ℕ) → IsOrder t xs → Apart xs
order_apart t [] order = tt
order_apart t (x ∷ xs) order = (order.0, order_apart t xs order.2)

module _ {C : Type 0} (t : TopoView C) (sound : IsSoundGraph t.topology) (clear : t.scratches
    ≡ clear_scratches t.topology)
    (p : ℕ) (y : Provider) (found : provider_at t.topology p ≡ Some y) where
  -- the geom lives
  pub place_lives : IsSome (geom_at t.topology y.geom)
  place_lives = offerer_lives t.topology sound p y found

  -- its number isn't zero
  pub place_positive : 1 ≤ y.geom
  place_positive = lives_positive t sound 1 (omega arith) y.geom place_lives

  -- the geoms below
  abbrev pub geoms_below : List ℕ
  geoms_below = order_from (rank t.topology y.geom) t.topology y.geom []

  -- they are in order and live
  pub below_ordered : IsOrder t.topology geoms_below
  below_ordered = the_order_is t sound clear y.geom place_lives place_positive

  pub below_lives : (x : ℕ) → Contains geoms_below x → IsSome (geom_at t.topology x)
  below_lives = the_order_lives t sound clear y.geom place_lives place_positive

  -- the first is among them
  pub first_below : Contains geoms_below y.geom
  first_below = head (rank t.topology y.geom) (rank_within-positive (length t.topology.geoms) t.topology y.geom)
    where
      head : (k : ℕ) → 1 ≤ k → Contains (order_from k t.topology y.geom []) y.geom
      head zero some = absurd (omega arith)
      head (suc k) some = search rules

  -- each provider that is reached is p or one to which a consumer of these geoms is attached, and its geom is among
  -- them
  abbrev pub IsTouched : ℕ → Type 0
  IsTouched q = Contains (p ∷ flat_map (providers_under t.topology) geoms_below) q
      × ((z : Provider) → provider_at t.topology q ≡ Some z → Contains geoms_below z.geom)

  pub reached_touched : (q : ℕ) → Contains (below t.topology p) q → IsTouched q
  reached_touched =
      below_least t.topology IsTouched
      (λ u x q touched at under. (
        Contains-there p q (flat_map (providers_under t.topology) geoms_below)
            (in_flat_map (providers_under t.topology) geoms_below x.geom q (touched.1 x at) under),
        (λ z there. order_closed t.topology geoms_below below_ordered x.geom z.geom (touched.1 x at)
            (is-under t.topology x.geom q z under there)),
      ))
      p (
        Contains-here p (flat_map (providers_under t.topology) geoms_below),
        search (rules, first_below),
      )

  -- so the order covers what is reached
  pub below_covers : Covers t.topology p geoms_below
  below_covers q z reached there = (reached_touched q reached).1 z there

  -- and each of its geoms has a provider that is reached
  abbrev pub HasReached : ℕ → Type 0
  HasReached x = (q : ℕ) × Contains (below t.topology p) q × IsSomeAnd (provider_at t.topology q) (λ z. z.geom ≡ x)

  -- a consumer of such a geom is attached to what is reached
  pub attached_reached : (x q : ℕ) → HasReached x → Contains (providers_under t.topology x) q
      → Contains (below t.topology p) q
  attached_reached x q has under =
      let d = filter_map-Contains (λ (c : Consumer). c.provider) (consumers_of t.topology x) q under in
      let inside = of_filter (λ (c : Consumer). c.geom == x) t.topology.consumers d.item d.stands in
      below_closed t.topology sound.ranked p has.0 q d.item inside.0 d.fact
      (subst (λ n. IsSomeAnd (provider_at t.topology has.0) (λ z. z.geom ≡ n)) (sym (eqb-true d.item.geom x inside.1))
      has.2) has.1

  pub all_reached : (x : ℕ) → Contains geoms_below x → HasReached x
  all_reached =
      order_within t.topology HasReached
      (λ x h has under.
      search (rules, under-is t.topology x h under, attached_reached x))
      (rank t.topology y.geom) y.geom [] (
        p,
        below_self (length t.topology.geoms) t.topology p,
        subst (λ o. IsSomeAnd o (λ (z : Provider). z.geom ≡ y.geom)) (sym found) refl,
      )
      (λ x there. absurd (nothing_in x there))

  -- none of these geoms has a consumer attached to the provider
  place_low : (x : ℕ) → Contains geoms_below x → rank t.topology x ≤ rank t.topology y.geom
  place_low =
      order_within t.topology (λ x. rank t.topology x ≤ rank t.topology y.geom)
      (search (rules, under_lower t.topology sound.ranked))
      (rank t.topology y.geom) y.geom [] (omega arith) (λ x there. absurd (nothing_in x there))

  pub above_place : (c : Consumer) → Contains (attached_to t.topology p) c → Contains geoms_below c.geom → ⊥
  above_place c at there =
      search (
        rules,
        of_filter (λ (d : Consumer). names_number d.provider p) t.topology.consumers c,
        place_low c.geom there,
      )

  -- What was tried

  -- the mesh before any geom has handed down
  pub given_is : (add : Counts)
      → give add (gathered_from t y.geom).view p ≡ trying t (first_tries y.geom geoms_below p add)
  given_is add =
      ap (λ (s : Gathered C). give add s.view p) (gathered_is t sound clear y.geom place_lives place_positive)
      ∙ trying-provider t (order_tries y.geom geoms_below) p
      (cap (add_counts (gain_at (trying t (order_tries y.geom geoms_below)) p) add))
      ∙ ap (λ a. trying t (record (order_tries y.geom geoms_below) {
        gains =
            set_at (λ n. no_counts) p (cap (add_counts a add));
      }))
      (trying-gain t (order_tries y.geom geoms_below) p (subst (λ o. IsSome o) (sym found) refl))

  -- the order that stands in it
  pub given_order : (add : Counts)
      → order_of (give add (gathered_from t y.geom).view p) (gathered_from t y.geom).order ≡ geoms_below
  given_order add =
      ap (λ v. order_of v (gathered_from t y.geom).order) (given_is add)
      ∙ ap (λ (s : Gathered C). order_of (trying t (first_tries y.geom geoms_below p add)) s.order)
      (gathered_is t sound clear y.geom place_lives place_positive)
      ∙ order_at t sound y.geom geoms_below (first_tries y.geom geoms_below p add) below_ordered below_lives (λ n. refl)

  -- its graph is the mesh's
  pub given_graph : (add : Counts) → (give add (gathered_from t y.geom).view p).topology ≡ t.topology
  given_graph add = ap (λ v. v.topology) (given_is add)

  module _ (way : Way) (add : Counts) (small gain : ℕ → Counts) (more : Consumer → Counts)
      (demand : Demands t.topology p add small gain more geoms_below)
      (shrinks : (z : Provider) → Contains t.topology.providers z
      → had way (have_at t z.number) (cap (gain z.number)) ≡ small z.number) where
    -- at first only p has gained
    first_gains : (q : ℕ)
        → (first_tries y.geom geoms_below p add).gains q ≡ gain_without t.topology p add more geoms_below q
    first_gains q =
        set_at-value (λ n. no_counts) p (cap (add_counts no_counts add)) q (p == q) refl
        ∙ by (p == q)
        ∙ sym (flow_start t.topology p add gain more geoms_below demand.flow q)
      where
        by : (b : Bool) → (if b then cap (add_counts no_counts add) else no_counts) ≡ cap (if b then add else no_counts)
        by true = ap cap (zero-add add)
        by false = refl

    -- what the walk comes to
    pub walked : Spread t sound way p add small gain more geoms_below demand shrinks geoms_below
        (first_tries y.geom geoms_below p add)
    walked = spread_all t sound way p add small gain more geoms_below demand shrinks geoms_below
        (first_tries y.geom geoms_below p add) below_ordered below_lives first_gains

    -- each consumer gains its part, in the order or not
    pub made_is : (c : Consumer) → Contains t.topology.consumers c → walked.tries.made c.geom ≡ cap (more c)
    made_is c there = search (rules, has_not geoms_below c.geom)

    -- a provider of a geom outside the order gains nothing
    pub outside_gain : (z : Provider) → Contains t.topology.providers z → has_number geoms_below z.geom ≡ false
        → gain z.number ≡ no_counts
    outside_gain z there outside =
        let known : provider_at t.topology z.number ≡ Some z = provider_known t sound z there in
        let away : Contains geoms_below z.geom → ⊥ = has_not geoms_below z.geom outside in
        demand.flow.sums z.number
        ∙ ap (λ b. add_counts (if b then add else no_counts) (sum_counts (map more (attached_to t.topology z.number))))
        (ne_eqb p z.number
        (λ e.
        let same : y ≡ z =
        let one : Some y ≡ Some z = sym found ∙ ap (provider_at t.topology) e ∙ known in cc in
        away (subst (λ w. Contains geoms_below w.geom) same first_below)))
        ∙ ap (add_counts no_counts)
        (sum-none more (attached_to t.topology z.number)
        (λ c at.
        let stands = of_filter (λ (d : Consumer). names_number d.provider z.number) t.topology.consumers c at in
        demand.flow.around c stands.0
        (λ above.
        away (order_closed t.topology geoms_below below_ordered c.geom z.geom above
        (is-under t.topology c.geom z.number z
        (directly_under t.topology c z.number stands.0 (names_some c.provider z.number stands.1)) known)))))
        ∙ zero-add no_counts

-- the mesh after a demand was tried
module _ {C : Type 0} {t : TopoView C} (sound : IsSoundGraph t.topology) (clear : t.scratches
    ≡ clear_scratches t.topology) {p : ℕ} {add : Counts} {way : Way} {new : TopoView C} {o : Order}
    (tried : IsTried t p add way new o) where
  -- the geoms below the provider
  abbrev pub walk : List ℕ
  walk = geoms_below t sound clear p tried.offer tried.found

  pub walk_ordered : IsOrder t.topology walk
  walk_ordered = below_ordered t sound clear p tried.offer tried.found

  pub walk_lives : (x : ℕ) → Contains walk x → IsSome (geom_at t.topology x)
  walk_lives = below_lives t sound clear p tried.offer tried.found

  pub walk_covers : Covers t.topology p walk
  walk_covers = below_covers t sound clear p tried.offer tried.found

  pub walk_reached : (x : ℕ) → Contains walk x
      → (q : ℕ) × Contains (below t.topology p) q × IsSomeAnd (provider_at t.topology q) (λ z. z.geom ≡ x)
  walk_reached = all_reached t sound clear p tried.offer tried.found

  -- the order that stands in the mesh
  pub tried_order : order_of new o ≡ walk
  tried_order = search (rules, given_order t sound clear p tried.offer tried.found add)

  -- the mesh is the walk over that order
  pub tried_view : new ≡ fold (spread_from way) (trying t (first_tries tried.offer.geom walk p add)) walk
  tried_view =
      tried.view
      ∙ ap (fold (spread_from way) (give add (gathered_from t tried.offer.geom).view p)) (sym tried.orders
      ∙ tried_order)
      ∙ ap (λ v. fold (spread_from way) v walk) (given_is t sound clear p tried.offer tried.found add)

  -- its graph is the mesh's
  pub tried_graph : new.topology ≡ t.topology
  tried_graph =
      ap (λ (v : TopoView C). v.topology) tried.view
      ∙ spreads_graph way (order_of (give add (gathered_from t tried.offer.geom).view p) o)
      (give add (gathered_from t tried.offer.geom).view p)
      ∙ given_graph t sound clear p tried.offer tried.found add

  -- the geoms of the order live
  pub tried_lives : All (λ x. IsSome (geom_at new.topology x)) (order_of new o)
  tried_lives = search (rules, tried_graph, tried_order, all_of (λ x. IsSome (geom_at t.topology x)) walk walk_lives)

  -- and differ
  pub tried_apart : Apart (order_of new o)
  tried_apart = subst Apart (sym tried_order) (order_apart t.topology walk walk_ordered)
