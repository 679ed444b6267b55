-- Edges and the geoms under a geom; a graph on which a function climbs is ranked.
use Rattle.std.specs.Prelude.{◌≡◌, ℕ, zero, suc, ◌+◌, ◌<◌, ◌≤◌, ◌==◌, nat_le, Bool, true, false, List, [], length, map, filter, Option, Some, None, Contains, IfSome, IsSome, IsSomeAnd, option_map, option_and_then, not}
use Rattle.std.specs.List.{AllByRecursion}
use Rattle.std.proofs.Common.{refl, sym, ◌∙◌, ap, arith}
use Rattle.std.proofs.lemmas.Bool.{eqb-true, eq-eqb, le-leb, leb-true, lt-leb, not_from_false}
use Rattle.std.proofs.lemmas.List.Elements.{recursion_from_All, All-from_recursion}
use Rattle.std.proofs.lemmas.List.Filters.{length-filter_both}
use Rattle.geo_model.proofs.Options.{at-found, at-some, some-with}
use Rattle.geo_model.specs.Words.{largest}
use Rattle.geo_model.specs.Topology.{Topology, Geom, Provider, Consumer, geom_at, provider_at, consumers_of, providers_under}
use Rattle.geo_model.specs.Rank.{rank, rank_within, geoms_under, Ranked}
use Rattle.geo_model.proofs.DemandLemmas.{map_same, all_weaker, no_items, find_passes, rank_within-positive}
use Rattle.geo_model.proofs.RankLemmas.{rank-largest}
use Rattle.geo_model.proofs.FilterLists.{length-kept}
use Rattle.geo_laws_graph.specs.Edges.{Below, Climbs, IsOneMoreThanBelow}
use Rattle.geo_laws_graph.proofs.Members.{Has, has, find-Contains, All-from_contained, at_contained, Contains-filter, filter-Contains, Contains-map, Contains-filter_map, filter_map-Contains, largest-above}
use Rattle.geo_model.specs.Graph.{GeomsLive, ProvidersLive}
use Rattle.geo_laws_graph.proofs.Lists.{filter-kept}

module _ {C : Type 0} (t : Topology C) where
  -- the geom of the provider, under the consumer of an edge
  pub attached_geom : (o : Option ℕ) (y : Provider) → option_and_then (provider_at t) o ≡ Some y → (p : ℕ)
      → o ≡ Some p → provider_at t p ≡ Some y
  attached_geom o y e p is = rw is at e

  -- a consumer with an edge is attached to a provider of some number
  pub provider_there : (o : Option ℕ) (y : Provider) → option_and_then (provider_at t) o ≡ Some y → Has o
  provider_there None y e = absurd (let no : ⊥ = cc in no)
  provider_there (Some p) y e = record { item = p; is = refl }

  -- the geom that the provider's number gives is its geom
  of_number : (p : ℕ) (y : Provider) (h : ℕ) → provider_at t p ≡ Some y → y.geom ≡ h
      → option_map (λ (x : Provider). x.geom) (provider_at t p) ≡ Some h
  of_number p y h e is = rw (e, is) refl

  -- what is below a geom is among the geoms under it
  pub under-from_below : (g h : ℕ) → Below t g h → Contains (geoms_under t g) h
  under-from_below g h b =
      let p = provider_there b.consumer.provider b.provider b.attached in
      let own : (b.consumer.geom == g) ≡ true = eq-eqb b.consumer.geom g b.above in
      let consumer : Contains (consumers_of t g) b.consumer =
      Contains-filter (λ (x : Consumer). x.geom == g) t.consumers b.consumer b.stands own in
      let number : Contains (providers_under t g) p.item =
      Contains-filter_map (λ (x : Consumer). x.provider) (consumers_of t g) b.consumer p.item consumer p.is in
      Contains-filter_map (λ q. option_map (λ (x : Provider). x.geom) (provider_at t q)) (providers_under t g)
      p.item h number
      (of_number p.item b.provider h (attached_geom b.consumer.provider b.provider b.attached p.item p.is) b.below)

  -- a geom that a provider's number gives is that of the provider
  geom_is : (p h : ℕ) (y : Provider) → provider_at t p ≡ Some y
      → option_map (λ (x : Provider). x.geom) (provider_at t p) ≡ Some h → y.geom ≡ h
  geom_is p h y e is = let same : Some y.geom ≡ Some h = rw e at is in cc

  -- and where a geom is given there is a provider
  some_mapped : (o : Option Provider) (h : ℕ) → option_map (λ (x : Provider). x.geom) o ≡ Some h → Has o
  some_mapped None h e = absurd (let no : ⊥ = cc in no)
  some_mapped (Some y) h e = record { item = y; is = refl }

  -- and what is among the geoms under it is below it
  pub below-from_under : (g h : ℕ) → Contains (geoms_under t g) h → Below t g h
  below-from_under g h c =
      let number =
      filter_map-Contains (λ q. option_map (λ (x : Provider). x.geom) (provider_at t q))
      (providers_under t g) h c in
      let y = some_mapped (provider_at t number.item) h number.fact in
      let consumer = filter_map-Contains (λ (x : Consumer). x.provider) (consumers_of t g) number.item number.stands in
      let own = filter-Contains (λ (x : Consumer). x.geom == g) t.consumers consumer.item consumer.stands in
      record {
        consumer = consumer.item;
        stands = own.0;
        above = eqb-true consumer.item.geom g own.1;
        provider = y.item;
        attached = rw (consumer.fact) y.is;
        below = geom_is number.item h y.item y.is number.fact;
      }

  -- a function climbs where it is greater above each edge, and attached providers live
  pub climbs_along : (f : ℕ → ℕ) → Climbs t f → (g h : ℕ) → Below t g h → f h < f g
  climbs_along f up g h b =
      let p = provider_there b.consumer.provider b.provider b.attached in
      let fact = at_contained _ t.consumers b.consumer
      (recursion_from_All
      (λ (c : Consumer). IfSome c.provider (λ p. IsSomeAnd (provider_at t p) (λ x. f x.geom < f c.geom)))
      t.consumers up) b.stands in
      let one = at-found b.consumer.provider (λ p. IsSomeAnd (provider_at t p) (λ x. f x.geom < f b.consumer.geom))
      p.item p.is fact in
      let less = at-some (provider_at t p.item) (λ (x : Provider). f x.geom < f b.consumer.geom) b.provider
      (attached_geom b.consumer.provider b.provider b.attached p.item p.is) one in
      rw (b.below, b.above) at less

  -- an attached consumer makes an edge from its geom down to its provider's
  edge_of : (c : Consumer) → Contains t.consumers c → (p : ℕ) → c.provider ≡ Some p → (y : Provider)
      → provider_at t p ≡ Some y → Below t c.geom y.geom
  edge_of c here p is y found = record {
    consumer = c;
    stands = here;
    above = refl;
    provider = y;
    attached = rw is found;
    below = refl;
  }

  -- so it climbs at each consumer, attached or not
  climbs_at : (f : ℕ → ℕ) → ((g h : ℕ) → Below t g h → f h < f g) → (c : Consumer) → Contains t.consumers c
      → (o : Option ℕ) → c.provider ≡ o → IfSome c.provider (λ p. IsSome (provider_at t p))
      → IfSome c.provider (λ p. IsSomeAnd (provider_at t p) (λ x. f x.geom < f c.geom))
  climbs_at f so c here None e live = rw e tt
  climbs_at f so c here (Some p) e live =
      let y = has (provider_at t p) (rw e at live) in
      rw e (some-with (provider_at t p) (λ (x : Provider). f x.geom < f c.geom) y.item y.is
      (so c.geom y.item.geom (edge_of c here p e y.item y.is)))

  -- and at all of them
  pub climbs_from : (f : ℕ → ℕ) → ProvidersLive t → ((g h : ℕ) → Below t g h → f h < f g) → Climbs t f
  climbs_from f live so =
      All-from_recursion
      (λ (c : Consumer).
      IfSome c.provider (λ p. IsSomeAnd (provider_at t p) (λ x. f x.geom < f c.geom))) t.consumers
      (All-from_contained
      (λ (c : Consumer).
      IfSome c.provider (λ p. IsSomeAnd (provider_at t p) (λ x. f x.geom < f c.geom))) t.consumers
      (λ c here. climbs_at f so c here c.provider refl
      (at_contained (λ (c : Consumer). IfSome c.provider (λ p. IsSome (provider_at t p))) t.consumers c
      (recursion_from_All (λ (c : Consumer). IfSome c.provider (λ p. IsSome (provider_at t p))) t.consumers
      live) here)))

  -- a function that falls along each edge falls at each geom under a geom
  under_falls : (f : ℕ → ℕ) → ((g h : ℕ) → Below t g h → f h < f g) → (g : ℕ)
      → AllByRecursion (λ h. f h < f g) (geoms_under t g)
  under_falls f so g = All-from_contained (λ h. f h < f g) (geoms_under t g) (λ h c. so g h (below-from_under g h c))

  -- from the level on that covers what is below, one level more changes nothing
  pub settles : (m : ℕ → ℕ) → ((g h : ℕ) → Below t g h → m h < m g) → (k g : ℕ) → m g ≤ k
      → rank_within k t g ≡ rank_within (suc k) t g
  settles m so zero g low =
      let none : geoms_under t g ≡ [] =
      no_items (geoms_under t g)
      (all_weaker (λ h. m h < m g) (λ h. ⊥) (λ h below. omega (arith, below, low)) (geoms_under t g)
      (under_falls m so g))
      in rw none refl
  settles m so (suc k) g low =
      ap (λ ranks. 1 + largest ranks)
      (map_same (rank_within k t) (rank_within (suc k) t) (geoms_under t g)
      (all_weaker (λ h. m h < m g) (λ h. rank_within k t h ≡ rank_within (suc k) t h)
      (λ h below. settles m so k h (omega (arith, below, low)))
      (geoms_under t g) (under_falls m so g)))

-- fewer pass the test that asks for more, where one passes the other alone
pub fewer_pass : {X : Type 0} (p q : X → Bool) → ((x : X) → p x ≡ true → q x ≡ true) → (xs : List X) (y : X)
    → Contains xs y → p y ≡ false → q y ≡ true → length (filter p xs) < length (filter q xs)
fewer_pass p q so xs y c none some =
    let same = ap (λ ys. length ys) (filter-kept q p so xs) in
    let gone =
    Contains-filter (λ x. not (p x)) (filter q xs) y (Contains-filter q xs y c some) (not_from_false (p y) none) in
    omega (arith, same, gone.1, length-filter_both p (λ x. not (p x)) (λ x. refl) (filter q xs))

module _ {C : Type 0} (t : Topology C) (f : ℕ → ℕ) (so : (g h : ℕ) → Below t g h → f h < f g) (live : GeomsLive t) where
  -- how many geoms stand no higher than a geom, by the function
  low : ℕ → ℕ
  low g = length (filter (λ (x : Geom C). nat_le (f x.number) (f g)) t.geoms)

  -- they are fewer at the lower end of an edge than at its upper end
  low_falls : (g h : ℕ) → Below t g h → low h < low g
  unfolding low
  low_falls g h b =
      let less = so g h b in
      let lives : IsSome (geom_at t b.consumer.geom) =
      at_contained (λ (c : Consumer). IsSome (geom_at t c.geom)) t.consumers b.consumer
      (recursion_from_All (λ (c : Consumer). IsSome (geom_at t c.geom)) t.consumers live) b.stands in
      let x = has (geom_at t g) (rw b.above at lives) in
      let number : x.item.number ≡ g =
      eqb-true x.item.number g (find_passes (λ (y : Geom C). y.number == g) t.geoms x.item x.is) in
      fewer_pass (λ (x : Geom C). nat_le (f x.number) (f h)) (λ (x : Geom C). nat_le (f x.number) (f g))
      (λ y e. le-leb (f y.number) (f g) (omega (arith, leb-true (f y.number) (f h) e)))
      t.geoms x.item
      (find-Contains (λ (y : Geom C). y.number == g) t.geoms x.item x.is)
      (rw number (lt-leb (f g) (f h) less))
      (rw number (le-leb (f g) (f g) (omega arith)))

  -- and no more than all geoms
  low-length : (g : ℕ) → low g ≤ length t.geoms
  unfolding low
  low-length g = length-kept (λ (x : Geom C). nat_le (f x.number) (f g)) t.geoms

  -- where a function climbs, the ranks are one more than those below
  pub ranks_settle : IsOneMoreThanBelow t (rank t)
  ranks_settle g = settles t low low_falls (length t.geoms) g (low-length g)

module _ {C : Type 0} (t : Topology C) where
  -- a function that is one more than those below falls along each edge
  pub one_more-falls : (r : ℕ → ℕ) → IsOneMoreThanBelow t r → (g h : ℕ) → Below t g h → r h < r g
  one_more-falls r is g h b =
      let one : r g ≡ 1 + largest (map r (geoms_under t g)) = is g in
      let below : r h ≤ largest (map r (geoms_under t g)) =
      largest-above (map r (geoms_under t g)) (r h)
      (Contains-map r (geoms_under t g) h (under-from_below t g h b)) in
      omega arith

  -- a graph on which a function climbs is ranked
  pub ranked-from_climbing : (f : ℕ → ℕ) → GeomsLive t → ProvidersLive t
      → ((g h : ℕ) → Below t g h → f h < f g) → Ranked t
  ranked-from_climbing f geoms providers so =
      climbs_from t (rank t) providers (one_more-falls (rank t) (ranks_settle t f so geoms))

  -- over enough levels such a function is the rank
  pub rank_within-is : (r : ℕ → ℕ) → IsOneMoreThanBelow t r → (k g : ℕ) → r g ≤ k + 1 → rank_within k t g ≡ r g
  rank_within-is r is zero g low = let one : r g ≡ 1 + largest (map r (geoms_under t g)) = is g in omega arith
  rank_within-is r is (suc k) g low =
      ap (λ ranks. 1 + largest ranks)
      (map_same (rank_within k t) r (geoms_under t g)
      (all_weaker (λ h. r h < r g) (λ h. rank_within k t h ≡ r h)
      (λ h below. rank_within-is r is k h (omega (arith, below, low)))
      (geoms_under t g) (under_falls t r (one_more-falls r is) g)))
      ∙ sym (is g)

  -- in a ranked graph more levels than the rank change nothing
  pub rank_within-enough : Ranked t → (k g : ℕ) → rank t g ≤ k + 1 → rank_within k t g ≡ rank t g
  rank_within-enough ranked k g low = rank_within-is (rank t) (rank-largest t ranked) k g low

  -- up to a rank a function that is one more than those below is the rank
  same_by : (r : ℕ → ℕ) → IsOneMoreThanBelow t r → Ranked t → (k g : ℕ) → rank t g ≤ k → r g ≡ rank t g
  same_by r is ranked zero g low = absurd (omega (arith, rank_within-positive (length t.geoms) t g))
  same_by r is ranked (suc k) g low =
      is g
      ∙ ap (λ ranks. 1 + largest ranks)
      (map_same r (rank t) (geoms_under t g)
      (all_weaker (λ h. rank t h < rank t g) (λ h. r h ≡ rank t h)
      (λ h below. same_by r is ranked k h (omega (arith, below, low)))
      (geoms_under t g) (under_falls t (rank t) (one_more-falls (rank t) (rank-largest t ranked)) g)))
      ∙ sym (rank-largest t ranked g)

  -- the rank is the only function that is one more than those below
  pub rank-only : (r : ℕ → ℕ) → IsOneMoreThanBelow t r → Ranked t → (g : ℕ) → r g ≡ rank t g
  rank-only r is ranked g = same_by r is ranked (rank t g) g (omega arith)

  -- the ranks of a ranked graph fall along each edge
  pub rank-falls : Ranked t → (g h : ℕ) → Below t g h → rank t h < rank t g
  rank-falls ranked = climbs_along t (rank t) ranked
