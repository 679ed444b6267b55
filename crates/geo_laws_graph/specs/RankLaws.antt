-- Laws of ranks (geom(4)), for any configuration C of a class.
use Rattle.std.specs.Prelude.{◌⊎◌, ◌≡◌, ◌≢◌, ◌↔◌, ℕ, ◌+◌, ◌≤◌, max, true, false, [], length, map, All}
use Rattle.geo_model.specs.TheConstants.{MAX_RANK}
use Rattle.geo_model.specs.Words.{largest}
use Rattle.geo_model.specs.Topology.{Topology, providers_of}
use Rattle.geo_model.specs.Rank.{rank, rank_within, geoms_under, reaches, Ranked, is_too_deep}
use Rattle.geo_model.specs.World.{Config}
use Rattle.geo_model.specs.Sound.{IsOfItsClass}
use Rattle.geo_laws_graph.specs.Edges.{AddsEdge, LongWay, Climbs, IsOneMoreThanBelow, HasEdgesOf, Path}
use Rattle.geo_model.specs.Graph.{GeomsLive, ProvidersLive}

-- Of one graph

-- a graph on which some function climbs is ranked, where the geoms of consumers live
abbrev pub ClimbingIsRanked : Type 0 → Type 0
ClimbingIsRanked C = (t : Topology C) (f : ℕ → ℕ) → Climbs t f → GeomsLive t → Ranked t

-- in a ranked graph the rank of a geom is one more than the highest below it, and no other function is so
abbrev pub RankIsOneMore : Type 0 → Type 0
RankIsOneMore C = (t : Topology C) → Ranked t → IsOneMoreThanBelow t (rank t)

-- a function that is one more than the highest below is the rank
abbrev pub RankIsTheOnly : Type 0 → Type 0
RankIsTheOnly C = (t : Topology C) → Ranked t → (r : ℕ → ℕ) → IsOneMoreThanBelow t r → (g : ℕ) → r g ≡ rank t g

-- levels past the rank change nothing
abbrev pub LevelsAreEnough : Type 0 → Type 0
LevelsAreEnough C = (t : Topology C) → Ranked t → (levels g : ℕ) → rank t g ≤ levels + 1
    → rank_within levels t g ≡ rank t g

-- a geom reaches another exactly where there is a way down to it
abbrev pub ReachingIsAWay : Type 0 → Type 0
ReachingIsAWay C = (t : Topology C) → Ranked t → (g h : ℕ) → (reaches t g h ≡ true) ↔ Path t g h

-- a way is no longer than the ranks at its ends say
abbrev pub WaysAreShort : Type 0 → Type 0
WaysAreShort C = (t : Topology C) → Ranked t → (g h : ℕ) (p : Path t g h) → length p.over + rank t h ≤ rank t g

-- a geom without providers is reached from itself alone
abbrev pub OnlyProvidersAreReached : Type 0 → Type 0
OnlyProvidersAreReached C = (t : Topology C) (g h : ℕ) → providers_of t h ≡ [] → g ≢ h → reaches t g h ≡ false

-- Of two graphs

-- the graph is ranked, and each rank and what is reached are what they were
pub record RanksStay {C : Type 0} (t u : Topology C) : Type 0 where
  pub ranked : Ranked u
  pub same : (g : ℕ) → rank u g ≡ rank t g
  pub reached : (g h : ℕ) → reaches u g h ≡ reaches t g h

-- what one edge more, from a geom down to another, does to the ranks: none falls; those of geoms that don't reach the
-- upper end stay; that of the upper end is the greater of what it was and one more than that of the lower; any other
-- is what it was, or by some way to the upper end as much above that end's; and it is still one more than the highest
-- of those that stood below
pub record RanksRise {C : Type 0} (t u : Topology C) (a b : ℕ) : Type 0 where
  pub ranked : Ranked u
  pub rises : (g : ℕ) → rank t g ≤ rank u g
  pub elsewhere : (g : ℕ) → reaches t g a ≡ false → rank u g ≡ rank t g
  pub above : rank u a ≡ max (rank t a) (1 + rank t b)
  pub ways : (g : ℕ) → (rank u g ≡ rank t g) ⊎ LongWay t u g a
  pub others : (g : ℕ) → g ≢ a → rank u g ≡ 1 + largest (map (rank u) (geoms_under t g))
  pub reached : (g : ℕ) → reaches u g a ≡ reaches t g a

-- the same edges make the same ranks, over however many geoms
abbrev pub SameEdgesKeepRanks : Type 0 → Type 0
SameEdgesKeepRanks C =
    (t u : Topology C) → Ranked t → GeomsLive u → ProvidersLive u → HasEdgesOf u t → HasEdgesOf t u → RanksStay t u

-- some of the edges make no greater ranks
abbrev pub FewerEdgesLowerRanks : Type 0 → Type 0
FewerEdgesLowerRanks C =
    (t u : Topology C) → Ranked t → GeomsLive u → ProvidersLive u → HasEdgesOf t u
    → Ranked u × ((g : ℕ) → rank u g ≤ rank t g)

-- each rank and what is reached are what they were, ranked or not
pub record AllRanksStay {C D : Type 0} (t : Topology C) (u : Topology D) : Type 0 where
  pub same : (g : ℕ) → rank u g ≡ rank t g
  pub reached : (g h : ℕ) → reaches u g h ≡ reaches t g h
  pub ranked : Ranked t → Ranked u

-- so one edge more raises them, where both are ranked
abbrev pub EdgesRaiseRanks : Type 0 → Type 0
EdgesRaiseRanks C = (t u : Topology C) (a b : ℕ) → AddsEdge t u a b → Ranked t → Ranked u → RanksRise t u a b

-- and they are, exactly where the lower end of the edge doesn't reach the upper end
abbrev pub EdgesMakeLoops : Type 0 → Type 0
EdgesMakeLoops C =
    (t u : Topology C) (a b : ℕ) → AddsEdge t u a b → Ranked t → GeomsLive u → ProvidersLive u
    → (reaches t b a ≡ false) ↔ Ranked u

-- The depth

-- where geoms are of their classes, only DEV and TASTE, geoms 1 and 2, may be deeper than the limit
abbrev pub DepthHolds : Type 0
DepthHolds =
    (t : Topology Config) → All IsOfItsClass t.geoms
    → (is_too_deep t ≡ false) ↔ All (λ x. x.number ≢ 1 → x.number ≢ 2 → rank t x.number ≤ MAX_RANK) t.geoms
