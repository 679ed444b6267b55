-- The graph as geoms and the edges between them, by which ranks are determined (geom(4)).
use Rattle.std.specs.Prelude.{◌≡◌, ◌⊎◌, ℕ, ◌+◌, ◌<◌, List, [], ◌∷◌, length, map, Some, All, Contains, IfSome, IsSomeAnd, option_and_then}
use Rattle.geo_model.specs.Words.{largest}
use Rattle.geo_model.specs.Topology.{Topology, Provider, Consumer, provider_at}
use Rattle.geo_model.specs.Rank.{geoms_under, rank}

-- a consumer of the one geom is attached to a provider of the other
pub record Below {C : Type 0} (t : Topology C) (g h : ℕ) : Type 0 where
  pub consumer : Consumer
  pub stands : Contains t.consumers consumer
  pub above : consumer.geom ≡ g
  pub provider : Provider
  pub attached : option_and_then (provider_at t) consumer.provider ≡ Some provider
  pub below : provider.geom ≡ h

-- a function on geoms is greater above each edge than below it; the graph is ranked where its ranks are so
abbrev pub Climbs : {C : Type 0} → Topology C → (ℕ → ℕ) → Type 0
Climbs t f = All (λ c. IfSome c.provider (λ p. IsSomeAnd (provider_at t p) (λ x. f x.geom < f c.geom))) t.consumers

-- a function is at each geom one more than the largest below
abbrev pub IsOneMoreThanBelow : {C : Type 0} → Topology C → (ℕ → ℕ) → Type 0
IsOneMoreThanBelow t r = (g : ℕ) → r g ≡ 1 + largest (map r (geoms_under t g))

-- the same edges, from the one graph to the other
abbrev pub HasEdgesOf : {C D : Type 0} → Topology C → Topology D → Type 0
HasEdgesOf u t = (g h : ℕ) → Below t g h → Below u g h

-- the second graph is the first with one edge more, from a geom down to another; neither has more geoms
pub record AddsEdge {C D : Type 0} (t : Topology C) (u : Topology D) (a b : ℕ) : Type 0 where
  pub geoms : length t.geoms ≡ length u.geoms
  pub old : HasEdgesOf u t
  pub new : Below u a b
  pub only : (g h : ℕ) → Below u g h → Below t g h ⊎ (g ≡ a) × (h ≡ b)

-- a way down from a geom to another, over the geoms that it meets after the first
abbrev pub IsPath : {C : Type 0} → Topology C → ℕ → List ℕ → ℕ → Type 0
IsPath t g [] h = g ≡ h
IsPath t g (x ∷ xs) h = Below t g x × IsPath t x xs h

-- some way down from a geom to another
pub record Path {C : Type 0} (t : Topology C) (g h : ℕ) : Type 0 where
  pub over : List ℕ
  pub is : IsPath t g over h

-- a way down the first graph that gives a rank of the second
pub record LongWay {C D : Type 0} (t : Topology C) (u : Topology D) (g a : ℕ) : Type 0 where
  pub way : Path t g a
  pub is : rank u g ≡ length way.over + rank u a

-- a way from a geom down to itself
pub record Loop {C : Type 0} (t : Topology C) (g : ℕ) : Type 0 where
  pub first : ℕ
  pub below : Below t g first
  pub back : Path t first g
