-- Ranks where edges are the same, fewer, or one more.
use Rattle.std.specs.Prelude.{[], ◌∷◌, ◌⊎◌, ◌≡◌, ℕ, zero, suc, ◌+◌, ◌<◌, ◌≤◌, ◌==◌, max, Bool, true, false, List, length, map, flat_map, Contains}
use Rattle.std.specs.List.{list_any}
use Rattle.std.proofs.Common.{inl, inr, refl, sym, ◌∙◌, arith}
use Rattle.std.proofs.lemmas.Bool.{cases_lt, cases_Bool, eqb-true, eqb-false, ne_eqb, or_parts, false_from_ne_true, true_from_ne_false}
use Rattle.geo_model.specs.Words.{largest}
use Rattle.geo_model.specs.Topology.{Topology}
use Rattle.geo_model.specs.Rank.{rank, rank_within, geoms_under, geoms_reached_within, reaches, Ranked}
use Rattle.geo_model.proofs.DemandLemmas.{rank_within-positive, rank_within-le}
use Rattle.geo_model.proofs.RankLemmas.{rank-largest}
use Rattle.geo_laws_graph.specs.Edges.{LongWay, Below, HasEdgesOf, AddsEdge, Path}
use Rattle.geo_laws_graph.proofs.Members.{Origin, Contains-here, Contains-there, Contains-map, map-Contains, largest-above, largest-least}
use Rattle.geo_laws_graph.proofs.Climbing.{under-from_below, below-from_under, ranked-from_climbing, rank-falls, rank_within-enough}
use Rattle.geo_laws_graph.proofs.Paths.{reached, any-flat_map, reaches-above, reaches-rank, path-from_reaches, path-edges, reached-itself, path-ranks}
use Rattle.geo_model.specs.Graph.{GeomsLive, ProvidersLive}

-- the largest of the values of some, and of others among which each has its like
largest-among : (f h : ℕ → ℕ) (xs ys : List ℕ) → ((x : ℕ) → Contains xs x → Contains ys x × (f x ≤ h x))
    → largest (map f xs) ≤ largest (map h ys)
largest-among f h xs ys so =
    largest-least (largest (map h ys)) (map f xs)
    (λ k c.
    let o = map-Contains f xs k c in
    let there = so o.item o.stands in
    let above = largest-above (map h ys) (h o.item) (Contains-map h ys o.item there.0) in
    let same : f o.item ≡ k = o.fact in
    let less : f o.item ≤ h o.item = there.1 in
    omega arith)

module _ {C D : Type 0} (t : Topology C) (u : Topology D) where
  -- with more edges no rank over so many levels is less
  pub rank_within-edges : HasEdgesOf u t → (k g : ℕ) → rank_within k t g ≤ rank_within k u g
  rank_within-edges edges zero g = omega arith
  rank_within-edges edges (suc k) g =
      let most = largest-among (rank_within k t) (rank_within k u) (geoms_under t g) (geoms_under u g)
      (λ h c. (under-from_below u g h (edges g h (below-from_under t g h c)), rank_within-edges edges k h)) in
      omega arith

module _ {C D : Type 0} (t : Topology C) (u : Topology D) where
  -- with the same edges ranks over so many levels are the same
  pub rank_within-same_edges : HasEdgesOf u t → HasEdgesOf t u → (k g : ℕ) → rank_within k u g ≡ rank_within k t g
  rank_within-same_edges more less k g =
      let up = rank_within-edges t u more k g in
      let down = rank_within-edges u t less k g in
      omega arith

  -- and so are the ranks, where there are as many geoms
  pub rank-same_edges : length u.geoms ≡ length t.geoms → HasEdgesOf u t → HasEdgesOf t u → (g : ℕ)
      → rank u g ≡ rank t g
  rank-same_edges e more less g = rw e (rank_within-same_edges more less (length t.geoms) g)

  -- a part of the edges of a ranked graph is ranked
  pub ranked-fewer : Ranked t → HasEdgesOf t u → GeomsLive u → ProvidersLive u → Ranked u
  ranked-fewer ranked less geoms providers =
      ranked-from_climbing u (rank t) geoms providers (λ g h b. rank-falls t ranked g h (less g h b))

  -- with no greater ranks
  pub rank-fewer : Ranked t → Ranked u → HasEdgesOf t u → (g : ℕ) → rank u g ≤ rank t g
  rank-fewer ranked ranked_less less g =
      let k : ℕ = length t.geoms + length u.geoms in
      let high = rank_within-le (length t.geoms) t g in
      let low = rank_within-le (length u.geoms) u g in
      let one : rank_within k t g ≡ rank t g = rank_within-enough t ranked k g (omega arith) in
      let other : rank_within k u g ≡ rank u g = rank_within-enough u ranked_less k g (omega arith) in
      let most : rank_within k u g ≤ rank_within k t g = rank_within-edges u t less k g in
      omega arith

-- the same edges over however many geoms: the graph stays ranked, and each rank stays
pub rank-kept : {C D : Type 0} (t : Topology C) (u : Topology D) → Ranked t → Ranked u → HasEdgesOf u t
    → HasEdgesOf t u → (g : ℕ) → rank u g ≡ rank t g
rank-kept t u ranked ranked_too more less g =
    let up = rank-fewer t u ranked ranked_too less g in
    let down = rank-fewer u t ranked_too ranked more g in
    omega arith

module _ {C D : Type 0} (t : Topology C) (u : Topology D) (a b : ℕ) (added : AddsEdge t u a b) where
  -- no rank falls by one edge more
  pub rank-rises : (g : ℕ) → rank t g ≤ rank u g
  rank-rises g =
      let e : length u.geoms ≡ length t.geoms = sym added.geoms in
      let most : rank_within (length t.geoms) t g ≤ rank_within (length t.geoms) u g =
      rank_within-edges t u added.old (length t.geoms) g in
      rw e most

  -- an edge from a geom other than the upper end was there before
  pub old_edge : (g h : ℕ) → (g == a) ≡ false → Below u g h → Below t g h
  old_edge g h other below =
      elim (added.only g h below) [
        | inl old ↦ old
        | inr ends ↦ absurd (eqb-false g a other ends.0)
      ]

  -- over so many levels only what reaches the upper end can change
  elsewhere : (k g : ℕ) → reached t k g a ≡ false → rank_within k u g ≡ rank_within k t g
  elsewhere zero g none = refl
  elsewhere (suc k) g none =
      let parts = or_parts (g == a)
      (list_any (λ x. x == a) (flat_map (geoms_reached_within k t) (geoms_under t g))) none in
      let less = largest-among (rank_within k u) (rank_within k t) (geoms_under u g) (geoms_under t g)
      (λ h c.
      let old = under-from_below t g h (old_edge g h parts.0 (below-from_under u g h c)) in
      let same = elsewhere k h (below_none k g h parts.1 old) in
      (old, omega arith)) in
      let more = largest-among (rank_within k t) (rank_within k u) (geoms_under t g) (geoms_under u g)
      (λ h c.
      let new = under-from_below u g h (added.old g h (below-from_under t g h c)) in
      let same = elsewhere k h (below_none k g h parts.1 c) in
      (new, omega arith)) in
      omega arith
    where
      -- where the geoms under a geom don't reach the upper end, none of them does
      below_none : (k g h : ℕ) → list_any (λ x. x == a) (flat_map (geoms_reached_within k t) (geoms_under t g)) ≡ false
          → Contains (geoms_under t g) h → reached t k h a ≡ false
      below_none k g h none c =
          false_from_ne_true (reached t k h a)
          (λ e. let some = any-flat_map (λ x. x == a) (geoms_reached_within k t) (geoms_under t g) h c e in cc)

  -- only the ranks of geoms that reach the upper end can change
  pub rank-elsewhere : (g : ℕ) → reaches t g a ≡ false → rank u g ≡ rank t g
  rank-elsewhere g none =
      let e : length u.geoms ≡ length t.geoms = sym added.geoms in
      let same : rank_within (length t.geoms) u g ≡ rank_within (length t.geoms) t g =
      elsewhere (length t.geoms) g none in
      rw e same

  -- a way back up from the lower end makes a loop
  loop_ranks : Ranked u → Path t b a → ⊥
  loop_ranks ranked p =
      let less : rank u b < rank u a = rank-falls u ranked a b added.new in
      let back = path-ranks u ranked b a p.over (path-edges t u added.old b a p.over p.is) in
      omega arith

  -- what climbs once the edge is there: the rank, and above the edge more than the rank at its lower end
  lifted_by : Bool → ℕ → ℕ
  lifted_by true n = n
  lifted_by false n = 0

  -- the rank of a geom, and more where it reaches the upper end
  lifted : ℕ → ℕ
  lifted g = rank t g + lifted_by (reaches t g a) (rank t b + 1)

  -- where a geom is lifted only if another is, it is lifted no more than that one
  lifted_le : (x y : Bool) (n : ℕ) → (x ≡ true → y ≡ true) → lifted_by x n ≤ lifted_by y n
  unfolding lifted_by
  lifted_le true true n so = omega arith
  lifted_le true false n so = let e = so refl in absurd (let bad : ⊥ = cc in bad)
  lifted_le false y n so = omega arith

  -- so lifted ranks fall along each edge, the new one too
  lifted_falls : Ranked t → reaches t b a ≡ false → (g h : ℕ) → Below u g h → lifted h < lifted g
  unfolding lifted lifted_by
  lifted_falls ranked none g h below =
      elim (added.only g h below) [
        | inl old ↦
            let less = rank-falls t ranked g h old in
            let more = lifted_le (reaches t h a) (reaches t g a) (rank t b + 1)
            (λ e. reaches-above t ranked g h a old e) in
            omega arith
        | inr ends ↦ rw (ends.0, ends.1, none, reached-itself t (length t.geoms) a) (omega arith)
      ]

  -- one edge more leaves the graph ranked where its lower end doesn't reach its upper end
  pub ranked-added : Ranked t → GeomsLive u → ProvidersLive u → reaches t b a ≡ false → Ranked u
  ranked-added ranked geoms providers none = ranked-from_climbing u lifted geoms providers (lifted_falls ranked none)

  -- and only there
  pub added-ranked : Ranked u → reaches t b a ≡ false
  added-ranked ranked = false_from_ne_true (reaches t b a) (λ e. loop_ranks ranked (path-from_reaches t b a e))

  -- the lower end reaches the upper end where there is a way from the upper end to itself
  pub loop-from_reaches : reaches t b a ≡ true → Path u b a
  loop-from_reaches e =
      let p = path-from_reaches t b a e in
      record { over = p.over; is = path-edges t u added.old b a p.over p.is }

  -- where the upper end has a way to itself, the lower end reached it before
  pub reaches-from_loop : Ranked t → GeomsLive u → ProvidersLive u → (g : ℕ) → Below u a g → Path u g a
      → reaches t b a ≡ true
  reaches-from_loop ranked geoms providers g first p =
      true_from_ne_false (reaches t b a)
      (λ none.
      let now = ranked-added ranked geoms providers none in
      let less = rank-falls u now a g first in
      let back = path-ranks u now g a p.over p.is in
      omega arith)

  -- the rank above the edge is what it was, or one more than that below the edge
  pub rank-above_edge : Ranked t → Ranked u → rank u a ≡ max (rank t a) (1 + rank t b)
  rank-above_edge ranked now =
      let none = added-ranked now in
      let lower : rank u b ≡ rank t b = rank-elsewhere b none in
      let new : Contains (geoms_under u a) b = under-from_below u a b added.new in
      let highest : ℕ = max (largest (map (rank t) (geoms_under t a))) (rank t b) in
      let before : rank t a ≡ 1 + largest (map (rank t) (geoms_under t a)) = rank-largest t ranked a in
      let after : rank u a ≡ 1 + largest (map (rank u) (geoms_under u a)) = rank-largest u now a in
      let most : largest (map (rank u) (geoms_under u a)) ≤ highest =
      largest-least highest (map (rank u) (geoms_under u a))
      (λ k c.
      let o = map-Contains (rank u) (geoms_under u a) k c in
      let is : rank u o.item ≡ k = o.fact in
      elim (added.only a o.item (below-from_under u a o.item o.stands)) [
        | inl old ↦
            let same = rank-elsewhere o.item (not_back ranked o.item old) in
            let one = largest-above (map (rank t) (geoms_under t a)) (rank t o.item)
            (Contains-map (rank t) (geoms_under t a) o.item (under-from_below t a o.item old)) in
            omega arith
        | inr ends ↦ let same : rank u o.item ≡ rank t b = rw ends.1 lower in omega arith
      ]) in
      let old_most : largest (map (rank t) (geoms_under t a)) ≤ largest (map (rank u) (geoms_under u a)) =
      largest-among (rank t) (rank u) (geoms_under t a) (geoms_under u a)
      (λ h c. (under-from_below u a h (added.old a h (below-from_under t a h c)), rank-rises h)) in
      let one = largest-above (map (rank u) (geoms_under u a)) (rank u b)
      (Contains-map (rank u) (geoms_under u a) b new) in
      omega arith
    where
      -- a geom below the upper end doesn't reach back up to it
      not_back : Ranked t → (h : ℕ) → Below t a h → reaches t h a ≡ false
      not_back ranked h old =
          false_from_ne_true (reaches t h a)
          (λ e. let up = reaches-rank t ranked h a e in let down = rank-falls t ranked a h old in omega arith)

  -- elsewhere the geoms under a geom stay, so that its rank is still one more than the highest of theirs
  pub rank-mended : Ranked u → (g : ℕ) → (g ≡ a → ⊥) → rank u g ≡ 1 + largest (map (rank u) (geoms_under t g))
  rank-mended now g other =
      let apart : (g == a) ≡ false = ne_eqb g a other in
      let after : rank u g ≡ 1 + largest (map (rank u) (geoms_under u g)) = rank-largest u now g in
      let less = largest-among (rank u) (rank u) (geoms_under u g) (geoms_under t g)
      (λ h c. (under-from_below t g h (old_edge g h apart (below-from_under u g h c)), omega arith)) in
      let more = largest-among (rank u) (rank u) (geoms_under t g) (geoms_under u g)
      (λ h c. (under-from_below u g h (added.old g h (below-from_under t g h c)), omega arith)) in
      omega arith

  -- the largest is one of them, if there is one
  one_largest : (f : ℕ → ℕ) (ns : List ℕ) → (ns ≡ []) ⊎ Origin (λ n. f n ≡ largest (map f ns)) ns
  one_largest f [] = inl refl
  one_largest f (n ∷ ns) =
      elim (cases_lt (f n) (largest (map f ns))) [
        | inl less ↦ inr (behind (one_largest f ns) less)
        | inr more ↦ inr (record { item = n; stands = Contains-here n ns; fact = omega arith })
      ]
    where
      -- where the first is less, the largest is one of the rest
      behind : (ns ≡ []) ⊎ Origin (λ k. f k ≡ largest (map f ns)) ns → f n < largest (map f ns)
          → Origin (λ k. f k ≡ largest (map f (n ∷ ns))) (n ∷ ns)
      behind (inl none) less = let zero_largest : largest (map f ns) ≡ 0 = rw none refl in absurd (omega arith)
      behind (inr o) less =
          let is : f o.item ≡ largest (map f ns) = o.fact in
          record { item = o.item; stands = Contains-there n o.item ns o.stands; fact = omega arith }

  -- ranks up to a number are what they were, or lead over a way to the upper end
  way_by : Ranked t → Ranked u → (k g : ℕ) → rank u g ≤ k → (rank u g ≡ rank t g) ⊎ LongWay t u g a
  way_by ranked now zero g low = absurd (omega (arith, rank_within-positive (length u.geoms) u g))
  way_by ranked now (suc k) g low =
      elim (cases_Bool (g == a)) [
        | inl same ↦
            let is : g ≡ a = eqb-true g a same in
            inr (record { way = record { over = []; is = is }; is = rw is (omega arith) })
        | inr other ↦
            let after : rank u g ≡ 1 + largest (map (rank u) (geoms_under t g)) =
            rank-mended now g (eqb-false g a other) in
            highest (one_largest (rank u) (geoms_under t g)) after
            (λ h less. way_by ranked now k h (omega (arith, less)))
      ]
    where
      -- so is a rank that is one more than the highest below
      highest : (geoms_under t g ≡ [])
          ⊎ Origin (λ n. rank u n ≡ largest (map (rank u) (geoms_under t g))) (geoms_under t g)
          → rank u g ≡ 1 + largest (map (rank u) (geoms_under t g))
          → ((h : ℕ) → rank u h < rank u g → (rank u h ≡ rank t h) ⊎ LongWay t u h a) → (rank u g ≡ rank t g)
          ⊎ LongWay t u g a
      highest (inl none) after so =
          let one : rank u g ≡ 1 = after ∙ (rw none refl) in
          let least = rank_within-positive (length t.geoms) t g in
          let more = rank-rises g in
          inl (omega arith)
      highest (inr o) after so =
          let is : rank u o.item ≡ largest (map (rank u) (geoms_under t g)) = o.fact in
          let below : Below t g o.item = below-from_under t g o.item o.stands in
          elim (so o.item (omega arith)) [
            | inl same ↦
                let less = rank-falls t ranked g o.item below in
                let more = rank-rises g in
                inl (omega arith)
            | inr long ↦
                let further : rank u o.item ≡ length long.way.over + rank u a = long.is in
                inr (record {
                  way = record { over = o.item ∷ long.way.over; is = (below, long.way.is) };
                  is = omega arith;
                })
          ]

  -- each rank is what it was, or leads over a way to the upper end
  pub rank-ways : Ranked t → Ranked u → (g : ℕ) → (rank u g ≡ rank t g) ⊎ LongWay t u g a
  rank-ways ranked now g = way_by ranked now (rank u g) g (omega arith)
