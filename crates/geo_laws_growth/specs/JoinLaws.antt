-- What a consumer does to counts that comes to a provider while its geom is open (g_attach(9), g_access(9)).
use Rattle.std.specs.Prelude.{◌≡◌, ◌↔◌, ℕ, ◌==◌, false, [], map, Some, None, All, Contains, IsTrue, if◌then◌else◌}
use Rattle.geo_model.specs.Counts.{Counts}
use Rattle.geo_model.specs.Topology.{Topology, Geom, Provider, Consumer, geom_at, provider_at, consumer_at, providers_of, attached_to, attach}
use Rattle.geo_model.specs.Rank.{Ranked, would_loop, is_too_deep}
use Rattle.geo_model.specs.Opens.{below, has_error_below, join_refusal}
use Rattle.geo_model.specs.Demand.{have, want, no_counts, add_counts, sum_counts, is_exclusive, fits_limit, risen, fallen}
use Rattle.geo_model.specs.Graph.{IsInOrder, GeomsLive}
use Rattle.geo_laws_graph.specs.Attach.{CanAttach}
use Rattle.geo_laws_counts.specs.CountWords.{IsAtMost, more_counts, gain_of_kind}
use Rattle.geo_laws_counts.specs.LimitLaws.{NoneInTheWay, greatest_counts}
use Rattle.geo_laws_counts.specs.DemandLaws.{StaysAround}

-- a consumer that isn't attached joins a provider, and the graph has no loop with it
pub record Joins {C : Type 0} (t : Topology C) (c p : ℕ) : Type 0 where
  pub consumer : Consumer
  pub stands : consumer_at t c ≡ Some consumer
  pub free : consumer.provider ≡ None
  pub order : IsInOrder t
  pub ranked : Ranked t
  pub after : Ranked (attach t c p)

-- so it is where the geom wouldn't reach itself
abbrev pub JoinsWithoutLoop : Type 0 → Type 0
JoinsWithoutLoop C =
    (t : Topology C) (c p : ℕ) → CanAttach t c p → Ranked t → GeomsLive t → IsInOrder t
    → would_loop t (consumer_at t c) (provider_at t p) ≡ false → Joins t c p

-- no count and no want falls
pub record JoiningRaises (C : Type 0) : Type 0 where
  pub counts : (granted : ℕ → Counts) (t : Topology C) (c p : ℕ) → Joins t c p
      → (q : ℕ) → IsAtMost (have granted t q) (have granted (attach t c p) q)
  pub wants : (granted : ℕ → Counts) (t : Topology C) (c p : ℕ) → Joins t c p
      → (d : Consumer) → IsAtMost (want granted t d) (want granted (attach t c p) d)

-- the same providers are reached downwards from the one that is joined, and the same errors
pub record JoiningKeepsBelow (C : Type 0) : Type 0 where
  pub providers : (t : Topology C) (c p : ℕ) → Joins t c p → below (attach t c p) p ≡ below t p
  pub errors : (t : Topology C) (c p : ℕ) → Joins t c p → has_error_below (attach t c p) p ≡ has_error_below t p

-- only what is reached downwards changes: a consumer of a geom that offers nothing of this wants what it wanted, and so
-- does the one that joins
pub record JoiningChangesBelow (C : Type 0) : Type 0 where
  pub around : (granted : ℕ → Counts) (t : Topology C) (c p : ℕ) → Joins t c p
      → StaysAround granted t granted (attach t c p) (below t p)
  pub wants : (granted : ℕ → Counts) (t : Topology C) (c p : ℕ) → Joins t c p
      → (d : Consumer) → All (λ y. Contains (below t p) y.number → ⊥) (providers_of t d.geom)
      → want granted (attach t c p) d ≡ want granted t d
  pub own : (granted : ℕ → Counts) (t : Topology C) (c p : ℕ) (j : Joins t c p)
      → want granted (attach t c p) j.consumer ≡ want granted t j.consumer

-- the provider gains just what the consumer wants that joins it; any one gains the sum of what its consumers gain, and
-- at p that want; and what a consumer gains follows from what its geom's providers had and gain
pub record JoiningGains (C : Type 0) : Type 0 where
  pub joined : (granted : ℕ → Counts) (t : Topology C) (c p : ℕ) (j : Joins t c p)
      → have granted (attach t c p) p ≡ add_counts (have granted t p) (want granted (attach t c p) j.consumer)
  pub providers : (granted : ℕ → Counts) (t : Topology C) (c p : ℕ) (j : Joins t c p) → (q : ℕ)
      → have granted (attach t c p) q
      ≡ add_counts (have granted t q)
      (add_counts
      (sum_counts (map (λ d. more_counts (want granted t d) (want granted (attach t c p) d)) (attached_to t q)))
      (if p == q then want granted (attach t c p) j.consumer else no_counts))
  pub consumers : (granted : ℕ → Counts) (t : Topology C) (c p : ℕ) → Joins t c p
      → (d : Consumer) (g : Geom C) → geom_at t d.geom ≡ Some g
      → want granted (attach t c p) d
      ≡ add_counts (want granted t d)
      (gain_of_kind g.kind
      (map (λ x. have granted t x.number) (providers_of t g.number))
      (map (λ x. more_counts (have granted t x.number) (have granted (attach t c p) x.number))
      (providers_of t g.number))
      no_counts)

-- write counts that leave zero are reached downwards, and none comes to zero
pub record JoiningRisesBelow (C : Type 0) : Type 0 where
  pub risen : (granted : ℕ → Counts) (t : Topology C) (c p : ℕ) → Joins t c p
      → All (Contains (below t p)) (risen granted t granted (attach t c p))
  pub none_falls : (granted : ℕ → Counts) (t : Topology C) (c p : ℕ) → Joins t c p
      → fallen granted t granted (attach t c p) ≡ []

-- What refuses a consumer that joins

-- nothing refuses it: there is no error below, no loop, nothing too deep, nobody in another's way, no count too great
pub record IsJoined {C : Type 0} (granted : ℕ → Counts) (t : Topology C) (c p : ℕ) : Type 0 where
  pub errors : has_error_below t p ≡ false
  pub loop : would_loop t (consumer_at t c) (provider_at t p) ≡ false
  pub depth : is_too_deep (attach t c p) ≡ false
  pub exclusive : IsTrue (is_exclusive granted (attach t c p))
  pub limit : IsTrue (fits_limit granted (attach t c p))

-- a consumer isn't refused just where it is so, and it is enough to look at what is reached downwards: none comes to
-- stand in another's way, and no count comes above the limit, just where none does there
pub record JoinsAreAllowed (C : Type 0) : Type 0 where
  pub refusal : (granted : ℕ → Counts) (t : Topology C) (c p : ℕ) → join_refusal granted t c p ≡ None
      ↔ IsJoined granted t c p
  pub exclusive : (granted : ℕ → Counts) (t : Topology C) (c p : ℕ) → Joins t c p → IsTrue (is_exclusive granted t)
      → IsTrue (is_exclusive granted (attach t c p))
      ↔ All (λ (x : Provider). Contains (below t p) x.number
      → NoneInTheWay granted (attach t c p) (attached_to (attach t c p) x.number))
      t.providers
  pub limit : (granted : ℕ → Counts) (t : Topology C) (c p : ℕ) → Joins t c p → IsTrue (fits_limit granted t)
      → IsTrue (fits_limit granted (attach t c p))
      ↔ All (λ (x : Provider). Contains (below t p) x.number
      → IsAtMost (have granted (attach t c p) x.number) greatest_counts) t.providers
