-- Ranks and ways where edges are the same, fewer, or one more.
use Rattle.std.specs.Prelude.{◌≡◌, ◌≢◌, ◌↔◌, ℕ, ◌<◌, ◌≤◌, ◌==◌, true, false, List, [], ◌∷◌, length, Some, Contains, IfSome, IsSome, IsSomeAnd}
use Rattle.std.proofs.Common.{inl, inr, ◌∙◌, subst, arith}
use Rattle.std.proofs.lemmas.Bool.{eqb-true, eq-eqb, cases_Bool, false_from_ne_true}
use Rattle.geo_model.specs.Topology.{Topology, Provider, Consumer, provider_at, providers_of}
use Rattle.geo_model.specs.Rank.{rank, reaches, Ranked}
use Rattle.geo_laws_graph.specs.Edges.{Below, Climbs, AddsEdge, HasEdgesOf, IsPath, Path}
use Rattle.geo_laws_graph.specs.RankLaws.{AllRanksStay, RanksStay, RanksRise}
use Rattle.geo_laws_graph.proofs.Members.{find-Contains, Contains-filter, nothing_in}
use Rattle.std.proofs.lemmas.List.Elements.{All-weaker}
use Rattle.geo_model.proofs.Tests.{same_tests}
use Rattle.geo_model.proofs.Options.{there_with_fact}
use Rattle.geo_laws_graph.proofs.Climbing.{provider_there, attached_geom, ranked-from_climbing, climbs_along, climbs_from, rank-falls}
use Rattle.geo_laws_graph.proofs.Paths.{reaches-same_edges, reaches-kept, reaches-from_path, path-from_reaches, path-edges, path-ranks}
use Rattle.geo_laws_graph.proofs.AddedEdges.{rank-ways, ranked-fewer, rank-fewer, rank-kept, rank-same_edges, rank-rises, rank-elsewhere, rank-above_edge, rank-mended, old_edge}
use Rattle.geo_model.specs.Graph.{GeomsLive, ProvidersLive}
use Rattle.geo_laws_graph.proofs.Living.{if_some_weaker}

-- where some function climbs each attached consumer's provider lives
pub climbing-live : {C : Type 0} (t : Topology C) (f : ℕ → ℕ) → Climbs t f → ProvidersLive t
climbing-live t f up =
    All-weaker (λ (c : Consumer). IfSome c.provider (λ p. IsSomeAnd (provider_at t p) (λ x. f x.geom < f c.geom)))
    (λ (c : Consumer). IfSome c.provider (λ p. IsSome (provider_at t p)))
    (λ c. if_some_weaker (λ p. IsSomeAnd (provider_at t p) (λ x. f x.geom < f c.geom)) (λ p. IsSome (provider_at t p))
    (λ p. there_with_fact (λ (x : Provider). f x.geom < f c.geom) (provider_at t p)) c.provider)
    t.consumers up

-- so it does in a ranked graph
pub ranked-live : {C : Type 0} (t : Topology C) → Ranked t → ProvidersLive t
ranked-live t ranked = climbing-live t (rank t) ranked

-- a graph on which some function climbs
pub climbing-ranked : {C : Type 0} (t : Topology C) (f : ℕ → ℕ) → Climbs t f → GeomsLive t → Ranked t
climbing-ranked t f up live = ranked-from_climbing t f live (climbing-live t f up) (climbs_along t f up)

module _ {C : Type 0} (t : Topology C) where
  -- a way to a geom without providers is only from that geom
  way_on : (h : ℕ) → providers_of t h ≡ [] → (g : ℕ) (over : List ℕ) → IsPath t g over h → g ≡ h
  way_on h none g [] is = is
  way_on h none g (x ∷ over) is =
      let last : x ≡ h = way_on h none x over is.1 in
      absurd (offers_none is.0 last)
    where
      -- no edge leads down to it
      offers_none : Below t g x → x ≡ h → ⊥
      offers_none b same =
          let p = provider_there t b.consumer.provider b.provider b.attached in
          let found : provider_at t p.item ≡ Some b.provider =
          attached_geom t b.consumer.provider b.provider b.attached p.item p.is in
          let here : Contains t.providers b.provider =
          find-Contains (λ (y : Provider). y.number == p.item) t.providers b.provider found in
          let of : (b.provider.geom == h) ≡ true = eq-eqb b.provider.geom h (b.below ∙ same) in
          nothing_in b.provider
          (subst (λ (ys : List Provider). Contains ys b.provider) none
          (Contains-filter (λ (y : Provider). y.geom == h) t.providers b.provider here of))

  -- a geom without providers is reached from itself alone
  pub reaches-none : (g h : ℕ) → providers_of t h ≡ [] → g ≢ h → reaches t g h ≡ false
  reaches-none g h none apart =
      false_from_ne_true (reaches t g h) (λ e. let p = path-from_reaches t g h e in apart (way_on h none g p.over p.is))

  -- reaching is a way down
  pub reaching-way : Ranked t → (g h : ℕ) → (reaches t g h ≡ true) ↔ Path t g h
  reaching-way ranked g h = (path-from_reaches t g h, reaches-from_path t ranked g h)

module _ {C D : Type 0} (t : Topology C) (u : Topology D) where
  -- the same edges over as many geoms
  pub stays_all : length u.geoms ≡ length t.geoms → HasEdgesOf u t → HasEdgesOf t u
      → (ProvidersLive t → ProvidersLive u) → AllRanksStay t u
  stays_all e more less live =
      let same : (g : ℕ) → rank u g ≡ rank t g = rank-same_edges t u e more less in
      record {
        same = same;
        reached = reaches-same_edges t u more less e;
        ranked = λ ranked.
            climbs_from u (rank u) (live (ranked-live t ranked)) (λ g h b. let down =
            rank-falls t ranked g h (less g h b) in omega (arith, same g, same h));
      }

module _ {C : Type 0} (t u : Topology C) where
  -- the same edges
  pub stays-same_edges : Ranked t → GeomsLive u → ProvidersLive u → HasEdgesOf u t → HasEdgesOf t u → RanksStay t u
  stays-same_edges ranked geoms providers more less =
      let now = ranked-fewer t u ranked less geoms providers in
      record {
        ranked = now;
        same = rank-kept t u ranked now more less;
        reached = reaches-kept t u more less ranked now;
      }

  -- some of the edges: the graph stays ranked, with no greater ranks
  pub fewer-edges : Ranked t → GeomsLive u → ProvidersLive u → HasEdgesOf t u
      → Ranked u × ((g : ℕ) → rank u g ≤ rank t g)
  fewer-edges ranked geoms providers less =
      let now = ranked-fewer t u ranked less geoms providers in
      (now, rank-fewer t u ranked now less)

  module _ (a b : ℕ) (added : AddsEdge t u a b) where
    -- a way up to the upper end needs no new edge
    former_way : (g : ℕ) (over : List ℕ) → IsPath u g over a → Path t g a
    former_way g [] is = record { over = []; is = is }
    former_way g (x ∷ over) is =
        elim (cases_Bool (g == a)) [
          | inl same ↦ record { over = []; is = eqb-true g a same }
          | inr other ↦
              let rest = former_way x over is.1 in
              record { over = x ∷ rest.over; is = (old_edge t u a b added g x other is.0, rest.is) }
        ]

    -- so the upper end is reached from where it was before
    reached_same : Ranked t → Ranked u → (g : ℕ) → reaches u g a ≡ reaches t g a
    reached_same ranked now g =
        same_tests (reaches u g a) (reaches t g a)
        (λ e. let p = path-from_reaches u g a e in reaches-from_path t ranked g a (former_way g p.over p.is))
        (λ e.
        let p = path-from_reaches t g a e in
        reaches-from_path u now g a (record { over = p.over; is = path-edges t u added.old g a p.over p.is }))

    -- one edge more
    pub rises-edge : Ranked t → Ranked u → RanksRise t u a b
    rises-edge ranked now = record {
      ranked = now;
      rises = rank-rises t u a b added;
      elsewhere = rank-elsewhere t u a b added;
      above = rank-above_edge t u a b added ranked now;
      ways = rank-ways t u a b added ranked now;
      others = rank-mended t u a b added now;
      reached = reached_same ranked now;
    }

-- what `ways_lead_down` says
pub ruleset ways_lead_down = (reaching-way, path-ranks, reaches-none)
