-- Ways down the graph, and what is reached over so many levels.
use Rattle.std.specs.Prelude.{◌≡◌, ℕ, zero, suc, ◌+◌, ◌≤◌, ◌==◌, Bool, true, false, List, [], ◌∷◌, length, flat_map, Contains}
use Rattle.std.specs.List.{list_any}
use Rattle.std.proofs.Common.{inl, inr, refl, sym, ◌∙◌, arith}
use Rattle.std.proofs.lemmas.Bool.{eqb-true, eq-eqb, or_cases, or_left, or_right}
use Rattle.std.proofs.lemmas.List.Folds.{list_any-append}
use Rattle.geo_model.proofs.Tests.{same_tests}
use Rattle.geo_model.specs.Topology.{Topology}
use Rattle.geo_model.specs.Rank.{rank, geoms_under, geoms_reached_within, reaches, Ranked}
use Rattle.geo_model.proofs.DemandLemmas.{rank_within-le, rank_within-positive}
use Rattle.geo_model.proofs.FindLists.{some-passes, any-contained}
use Rattle.geo_model.proofs.MemberLists.{in_flat_map}
use Rattle.geo_laws_graph.specs.Edges.{Below, HasEdgesOf, IsPath, Path}
use Rattle.geo_laws_graph.proofs.Members.{Origin, Contains-here, Contains-there}
use Rattle.geo_laws_graph.proofs.Climbing.{under-from_below, below-from_under, rank-falls}

module _ {X Y : Type 0} (test : Y → Bool) (f : X → List Y) where
  -- one list passes the test, so does all of them
  pub any-flat_map : (xs : List X) (x : X) → Contains xs x → list_any test (f x) ≡ true
      → list_any test (flat_map f xs) ≡ true
  any-flat_map xs x c e =
      let one = some-passes test (f x) e in
      any-contained test (flat_map f xs) one.item (in_flat_map f xs x one.item c one.here) one.passes

  -- and where they pass it, one does
  pub flat_map-any : (xs : List X) → list_any test (flat_map f xs) ≡ true → Origin (λ x. list_any test (f x) ≡ true) xs
  flat_map-any [] e = absurd (let no : ⊥ = cc in no)
  flat_map-any (y ∷ xs) e =
      elim (or_cases (list_any test (f y)) (list_any test (flat_map f xs))
      (sym (list_any-append test (f y) (flat_map f xs)) ∙ e)) [
        | inl first ↦ record { item = y; stands = Contains-here y xs; fact = first }
        | inr rest ↦
            let o = flat_map-any xs rest in
            record { item = o.item; stands = Contains-there y o.item xs o.stands; fact = o.fact }
      ]

module _ {C : Type 0} (t : Topology C) where
  -- whether a geom is reached over so many levels
  abbrev pub reached : ℕ → ℕ → ℕ → Bool
  reached k g h = list_any (λ x. x == h) (geoms_reached_within k t g)

  -- each geom is reached from itself
  pub reached-itself : (k g : ℕ) → reached k g g ≡ true
  reached-itself zero g = rw (eq-eqb g g refl) refl
  reached-itself (suc k) g = rw (eq-eqb g g refl) refl

  -- what is reached has a way to it
  pub path-from_reached : (k g h : ℕ) → reached k g h ≡ true → Path t g h
  path-from_reached zero g h e =
      elim (or_cases (g == h) false e) [
        | inl same ↦ record { over = []; is = eqb-true g h same }
        | inr other ↦ absurd (let bad : ⊥ = cc in bad)
      ]
  path-from_reached (suc k) g h e =
      elim (or_cases (g == h) (list_any (λ x. x == h) (flat_map (geoms_reached_within k t) (geoms_under t g))) e) [
        | inl same ↦ record { over = []; is = eqb-true g h same }
        | inr rest ↦
            let o = flat_map-any (λ x. x == h) (geoms_reached_within k t) (geoms_under t g) rest in
            let p = path-from_reached k o.item h o.fact in
            record { over = o.item ∷ p.over; is = (below-from_under t g o.item o.stands, p.is) }
      ]

  -- and what has a way to it is reached over as many levels
  pub reached-from_path : (k g h : ℕ) (over : List ℕ) → length over ≤ k → IsPath t g over h → reached k g h ≡ true
  reached-from_path k g h [] short is = rw (sym is) (reached-itself k g)
  reached-from_path zero g h (x ∷ over) short is = absurd (omega (arith, short))
  reached-from_path (suc k) g h (x ∷ over) short is =
      or_right (g == h) (list_any (λ y. y == h) (flat_map (geoms_reached_within k t) (geoms_under t g)))
      (any-flat_map (λ y. y == h) (geoms_reached_within k t) (geoms_under t g) x (under-from_below t g x is.0)
      (reached-from_path k x h over (omega (arith, short)) is.1))

  -- in a ranked graph a way is no longer than the ranks say
  pub path-ranks : Ranked t → (g h : ℕ) (over : List ℕ) → IsPath t g over h → length over + rank t h ≤ rank t g
  path-ranks ranked g h [] is = rw is (omega arith)
  path-ranks ranked g h (x ∷ over) is =
      let less = rank-falls t ranked g x is.0 in
      let rest = path-ranks ranked x h over is.1 in
      omega arith

  -- in a ranked graph a geom reaches what it has a way to
  pub reaches-from_path : Ranked t → (g h : ℕ) → Path t g h → reaches t g h ≡ true
  reaches-from_path ranked g h p =
      let short = path-ranks ranked g h p.over p.is in
      let top = rank_within-le (length t.geoms) t g in
      let some = rank_within-positive (length t.geoms) t h in
      reached-from_path (length t.geoms) g h p.over (omega arith) p.is

  -- and it has a way to what it reaches
  pub path-from_reaches : (g h : ℕ) → reaches t g h ≡ true → Path t g h
  path-from_reaches g h e = path-from_reached (length t.geoms) g h e

  -- what is reached below is reached above
  pub reaches-above : Ranked t → (g h x : ℕ) → Below t g h → reaches t h x ≡ true → reaches t g x ≡ true
  reaches-above ranked g h x b e =
      let p = path-from_reaches h x e in
      reaches-from_path ranked g x (record { over = h ∷ p.over; is = (b, p.is) })

  -- what is reached has no greater rank
  pub reaches-rank : Ranked t → (g h : ℕ) → reaches t g h ≡ true → rank t h ≤ rank t g
  reaches-rank ranked g h e =
      let p = path-from_reaches g h e in
      let all = path-ranks ranked g h p.over p.is in
      omega arith

-- a way stays where the edges stay
pub path-edges : {C D : Type 0} (t : Topology C) (u : Topology D) → HasEdgesOf u t → (g h : ℕ) (over : List ℕ)
    → IsPath t g over h → IsPath u g over h
path-edges t u edges g h [] is = is
path-edges t u edges g h (x ∷ over) is = (edges g x is.0, path-edges t u edges x h over is.1)

-- what is reached over so many levels is so where the edges stay
pub reached-edges : {C D : Type 0} (t : Topology C) (u : Topology D) → HasEdgesOf u t → (k g h : ℕ)
    → reached t k g h ≡ true → reached u k g h ≡ true
reached-edges t u edges zero g h e = e
reached-edges t u edges (suc k) g h e =
    elim (or_cases (g == h) (list_any (λ x. x == h) (flat_map (geoms_reached_within k t) (geoms_under t g))) e) [
      | inl same ↦
          or_left (g == h) (list_any (λ x. x == h) (flat_map (geoms_reached_within k u) (geoms_under u g))) same
      | inr rest ↦
          let o = flat_map-any (λ x. x == h) (geoms_reached_within k t) (geoms_under t g) rest in
          let under = under-from_below u g o.item (edges g o.item (below-from_under t g o.item o.stands)) in
          or_right (g == h) (list_any (λ x. x == h) (flat_map (geoms_reached_within k u) (geoms_under u g)))
          (any-flat_map (λ x. x == h) (geoms_reached_within k u) (geoms_under u g) o.item under
          (reached-edges t u edges k o.item h o.fact))
    ]

module _ {C D : Type 0} (t : Topology C) (u : Topology D) (more : HasEdgesOf u t) (less : HasEdgesOf t u) where
  -- with the same edges and as many geoms the same is reached
  pub reaches-same_edges : length u.geoms ≡ length t.geoms → (g h : ℕ) → reaches u g h ≡ reaches t g h
  reaches-same_edges e g h =
      let same : reached u (length t.geoms) g h ≡ reached t (length t.geoms) g h =
      same_tests (reached u (length t.geoms) g h) (reached t (length t.geoms) g h)
      (reached-edges u t less (length t.geoms) g h) (reached-edges t u more (length t.geoms) g h) in
      rw e same

  -- in ranked graphs also over however many geoms
  pub reaches-kept : Ranked t → Ranked u → (g h : ℕ) → reaches u g h ≡ reaches t g h
  reaches-kept ranked now g h =
      same_tests (reaches u g h) (reaches t g h)
      (λ e. let p = path-from_reaches u g h e in
      reaches-from_path t ranked g h (record { over = p.over; is = path-edges u t less g h p.over p.is }))
      (λ e. let p = path-from_reaches t g h e in
      reaches-from_path u now g h (record { over = p.over; is = path-edges t u more g h p.over p.is }))
