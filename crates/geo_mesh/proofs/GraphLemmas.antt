-- What a mesh keeps makes its graph a sound one.
use Rattle.std.specs.Prelude.{◌≡◌, ℕ, ◌+◌, ◌<◌, ◌==◌, true, List, [], ◌∷◌, find, filter, map, Some, None, All, AllPairs, Contains, IfSome, IsSome}
use Rattle.std.specs.Option.{option_map}
use Rattle.std.proofs.Common.{refl, sym, ◌∙◌, ap, subst, arith, rules}
use Rattle.std.proofs.lemmas.Bool.{eq-eqb}
use Rattle.geo_model.specs.Words.{largest}
use Rattle.geo_model.specs.Topology.{Provider, Consumer, provider_at, consumers_of, providers_under}
use Rattle.geo_model.specs.Rank.{rank, geoms_under, Ranked}
use Rattle.geo_model.specs.Sound.{DifferInName}
use Rattle.geo_laws_graph.proofs.Members.{Contains-filter, Contains-filter_map, Contains-map, largest-above, nothing_in}
use Rattle.geo_slots.specs.Slots.{SlotsView}
use Rattle.geo_mesh.specs.declared.records.GeomCell.{GeomCell}
use Rattle.geo_mesh.specs.declared.tables.Edges.{Edges}
use Rattle.geo_mesh.specs.declared.tables.Tables.{Tables}
use Rattle.geo_mesh.specs.Cells.{graph_of, graph, provider_row}
use Rattle.geo_mesh.specs.Graph.{IsSoundGraph}
use Rattle.geo_mesh.specs.Names.{OneEach, is_sound_named}
use Rattle.geo_mesh.specs.Ranks.{HaveRanks, HaveDevAndTaste, below, rank_from, stored}
use Rattle.geo_mesh.specs.Whole.{IsWhole}
use Rattle.geo_mesh.proofs.RankFirst.{first-two, rank_from-local}
use Rattle.geo_mesh.proofs.RankMesh.{under-graph, rank_from-rank, mesh-low}

-- two functions with the same values give the same list
map_same : {X Y : Type 0} (f h : X → Y) → ((x : X) → f x ≡ h x) → (xs : List X) → map f xs ≡ map h xs
map_same f h same [] = refl
map_same f h same (x ∷ xs) = rw (same x, map_same f h same xs) refl

-- Ranks

module _ {C : Type 0} (gs : SlotsView (GeomCell C)) (edges : Edges) (live : ℕ) (mesh : HaveRanks gs edges live)
    (first : HaveDevAndTaste gs edges) where
  -- a rank is one more than the highest below
  rank-above : (g : ℕ)
      → rank (graph_of gs edges) g ≡ 1 + largest (map (rank (graph_of gs edges)) (geoms_under (graph_of gs edges) g))
  rank-above g =
      rank_from-rank gs edges live mesh first g
      ∙ rank_from-local edges first.bare (stored gs) mesh.standing.local g
      ∙ ap (λ n. 1 + largest n)
      (sym (map_same (rank (graph_of gs edges)) (rank_from (stored gs) edges)
      (rank_from-rank gs edges live mesh first) (below edges g)))
      ∙ ap (λ hs. 1 + largest (map (rank (graph_of gs edges)) hs)) (sym (under-graph gs edges g))

  -- the geom of a provider to which a consumer is attached is below the consumer's geom
  under_consumer : (c : Consumer) (p : ℕ) (x : Provider) → Contains (graph_of gs edges).consumers c
      → c.provider ≡ Some p → provider_at (graph_of gs edges) p ≡ Some x
      → Contains (geoms_under (graph_of gs edges) c.geom) x.geom
  under_consumer c p x here attached found =
      Contains-filter_map (λ q. option_map (λ (y : Provider). y.geom) (provider_at (graph_of gs edges) q))
      (providers_under (graph_of gs edges) c.geom) p x.geom
      (Contains-filter_map (λ (d : Consumer). d.provider) (consumers_of (graph_of gs edges) c.geom) c p
      (Contains-filter (λ (d : Consumer). d.geom == c.geom) (graph_of gs edges).consumers c here
      (eq-eqb c.geom c.geom refl))
      attached)
      (rw found refl)

  -- so its rank is less
  less_below : (c : Consumer) (p : ℕ) (x : Provider) → Contains (graph_of gs edges).consumers c
      → c.provider ≡ Some p → provider_at (graph_of gs edges) p ≡ Some x
      → rank (graph_of gs edges) x.geom < rank (graph_of gs edges) c.geom
  less_below c p x here attached found =
      let among = Contains-map (rank (graph_of gs edges)) (geoms_under (graph_of gs edges) c.geom) x.geom
      (under_consumer c p x here attached found) in
      omega (
        arith,
        rank-above c.geom,
        largest-above (map (rank (graph_of gs edges)) (geoms_under (graph_of gs edges) c.geom))
            (rank (graph_of gs edges) x.geom) among,
      )

  -- there is no loop, where the providers live
  graph_ranked : All (λ c. IfSome c.provider (λ p. IsSome (provider_at (graph_of gs edges) p)))
      (graph_of gs edges).consumers → Ranked (graph_of gs edges)
  graph_ranked live_providers = search (rules, less_below)

-- Names

-- a provider without an error that comes behind another of its name
alike_found : (x y : Provider) (ys : List Provider) → Contains ys y → is_sound_named x.name y ≡ true
    → find (is_sound_named x.name) ys ≡ None → DifferInName x y
alike_found x y ys here passes none =
    absurd (nothing_in y
    (subst (λ zs. Contains zs y) (empty ys none) (Contains-filter (is_sound_named x.name) ys y here passes)))
  where
    -- what isn't found isn't there
    empty : (zs : List Provider) → find (is_sound_named x.name) zs ≡ None → filter (is_sound_named x.name) zs ≡ []
    empty [] none = refl
    empty (z ∷ zs) none = search (rules, empty zs)

-- one of a name at most: two providers without an error differ in name
names_differ : (ps : List Provider) → OneEach ps → AllPairs DifferInName ps
names_differ [] one = λ i j d less within. absurd (omega arith)
names_differ (x ∷ xs) one = search (rules, names_differ xs one.1, alike_found x)

-- what a mesh keeps makes its graph a sound one
pub sound-graph : {C : Type 0} (t : Tables C) → IsWhole t → IsSoundGraph (graph t)
sound-graph t whole = record {
  orderly = whole.graph;
  ranked = graph_ranked t.geoms t.edges t.live whole.ranks (first-two t.geoms t.edges whole.graph)
      whole.graph.parts.providers;
  not_deep = mesh-low t.geoms t.edges t.live whole.ranks (first-two t.geoms t.edges whole.graph);
  names = names_differ (map provider_row t.edges.providers.rows) whole.tables.names_are.one;
}
