-- The rank of a geom is one more than the highest rank below it, where the graph is ranked.
use Rattle.std.specs.Prelude.{◌≡◌, ℕ, zero, suc, ◌+◌, ◌<◌, ◌≤◌, ◌==◌, List, [], ◌∷◌, Option, Some, None, filter_map, map, IfSome, IsSomeAnd, length, option_map}
use Rattle.std.specs.List.{AllByRecursion}
use Rattle.std.proofs.Common.{refl, ap, arith}
use Rattle.std.proofs.lemmas.Bool.{eqb-true}
use Rattle.std.proofs.lemmas.List.Elements.{recursion_from_All}
use Rattle.geo_model.specs.Words.{largest}
use Rattle.geo_model.specs.Topology.{Topology, Provider, Consumer, provider_at, consumers_of, providers_under}
use Rattle.geo_model.specs.Rank.{rank, rank_within, geoms_under, Ranked}
use Rattle.geo_model.proofs.DemandLemmas.{map_same, kept_by, all_weaker, no_items, rank_within-le, rank_within-positive}

-- what filter_map gives has a fact that follows from those of the items
mapped_cons : {X Y : Type 0} (Q : Y → Type 0) (h : X → Option Y) (x : X) (xs : List X) (o : Option Y) → h x ≡ o
    → ((y : Y) → h x ≡ Some y → Q y) → AllByRecursion Q (filter_map h xs) → AllByRecursion Q (filter_map h (x ∷ xs))
mapped_cons Q h x xs None e so rest = rw e rest
mapped_cons Q h x xs (Some y) e so rest = rw e (so y e, rest)

pub mapped_by : {X Y : Type 0} (P : X → Type 0) (Q : Y → Type 0) (h : X → Option Y)
    → ((x : X) (y : Y) → h x ≡ Some y → P x → Q y)
    → (xs : List X) → AllByRecursion P xs → AllByRecursion Q (filter_map h xs)
mapped_by P Q h so [] facts = facts
mapped_by P Q h so (x ∷ xs) facts =
    mapped_cons Q h x xs (h x) refl (λ y e. so x y e facts.0) (mapped_by P Q h so xs facts.1)

-- the geom of a provider that is found
geom_found : {C : Type 0} (t : Topology C) (p g : ℕ) (bound : ℕ) (o : Option Provider) → provider_at t p ≡ o
    → option_map (λ x. x.geom) (provider_at t p) ≡ Some g
    → IsSomeAnd (provider_at t p) (λ x. rank t x.geom < bound) → rank t g < bound
geom_found t p g bound None e found fact = let no : ⊥ =
    (let h : option_map (λ (x : Provider). x.geom) None ≡ Some g = rw e at found in cc) in absurd no
geom_found t p g bound (Some x) e found fact =
    let h : option_map (λ (z : Provider). z.geom) (Some x) ≡ Some g = rw e at found in
    let same : x.geom ≡ g = cc in
    let below : rank t x.geom < bound = rw e at fact in
    rw same at below

module _ {C : Type 0} (t : Topology C) (ranked : Ranked t) where
  -- the geoms below a geom have smaller ranks
  geoms_under-rank : (g : ℕ) → AllByRecursion (λ h. rank t h < rank t g) (geoms_under t g)
  geoms_under-rank g =
      mapped_by
      (λ p. IsSomeAnd (provider_at t p) (λ x. rank t x.geom < rank t g))
      (λ h. rank t h < rank t g)
      (λ p. option_map (λ x. x.geom) (provider_at t p))
      (λ p h e fact. geom_found t p h (rank t g) (provider_at t p) refl e fact)
      (providers_under t g)
      (mapped_by
      (λ (c : Consumer). IfSome c.provider (λ p. IsSomeAnd (provider_at t p) (λ x. rank t x.geom < rank t g)))
      (λ p. IsSomeAnd (provider_at t p) (λ x. rank t x.geom < rank t g))
      (λ (c : Consumer). c.provider)
      (λ c p e fact. rw e at fact)
      (consumers_of t g)
      (kept_by
      (λ (c : Consumer). IfSome c.provider (λ p. IsSomeAnd (provider_at t p) (λ x. rank t x.geom < rank t c.geom)))
      (λ (c : Consumer). IfSome c.provider (λ p. IsSomeAnd (provider_at t p) (λ x. rank t x.geom < rank t g)))
      (λ (c : Consumer). c.geom == g)
      (λ c e fact. rw (eqb-true c.geom g e) at fact)
      t.consumers
      (recursion_from_All _ t.consumers ranked)))

  -- from the level on that covers what is below, one level more changes nothing
  rank_within-more : (k g : ℕ) → rank t g ≤ k + 1 → rank_within k t g ≡ rank_within (suc k) t g
  rank_within-more zero g low =
      let none : geoms_under t g ≡ [] =
      no_items (geoms_under t g)
      (all_weaker (λ h. rank t h < rank t g) (λ h. ⊥)
      (λ h below. omega (arith, below, low, rank_within-positive (length t.geoms) t h))
      (geoms_under t g) (geoms_under-rank g))
      in rw none refl
  rank_within-more (suc k) g low =
      ap (λ ranks. 1 + largest ranks)
      (map_same (rank_within k t) (rank_within (suc k) t) (geoms_under t g)
      (all_weaker (λ h. rank t h < rank t g) (λ h. rank_within k t h ≡ rank_within (suc k) t h)
      (λ h below. rank_within-more k h (omega (arith, below, low)))
      (geoms_under t g) (geoms_under-rank g)))

  -- the rank is one more than the highest rank below, and 1 where nothing is below
  pub rank-largest : (g : ℕ) → rank t g ≡ 1 + largest (map (rank t) (geoms_under t g))
  rank-largest g = rank_within-more (length t.geoms) g (rank_within-le (length t.geoms) t g)
