-- Laws of more and less demand, of exclusiveness and of the limit (g_access(9)).
use Rattle.std.specs.Prelude.{◌≡◌, ◌≢◌, ◌⊎◌, ◌↔◌, ℕ, Bool, List, All, IsTrue}
use Rattle.geo_model.specs.Counts.{Counts}
use Rattle.geo_model.specs.TheConstants.{MAX_ACCESS_COUNT}
use Rattle.geo_model.specs.Topology.{Topology, Consumer, Provider, attached_to}
use Rattle.geo_model.specs.Demand.{have, want, is_exclusive, fits_limit}
use Rattle.geo_laws_counts.specs.CountWords.{IsAtMost, AreAtMost, keep_consumers}

-- More and less demand

-- counts and wants never fall with rising grants
abbrev pub CountsRiseWithGrants : Type 0 → Type 0
CountsRiseWithGrants C =
    (small large : ℕ → Counts) → AreAtMost small large → (t : Topology C)
    → (p : ℕ) → IsAtMost (have small t p) (have large t p)

-- nor do wants
abbrev pub WantsRiseWithGrants : Type 0 → Type 0
WantsRiseWithGrants C =
    (small large : ℕ → Counts) → AreAtMost small large → (t : Topology C)
    → (c : Consumer) → IsAtMost (want small t c) (want large t c)

-- nor do they rise where consumers are left out
abbrev pub CountsFallWithConsumers : Type 0 → Type 0
CountsFallWithConsumers C =
    (small large : ℕ → Counts) → AreAtMost small large → (t : Topology C) (keep : Consumer → Bool)
    → (p : ℕ) → IsAtMost (have small (keep_consumers t keep) p) (have large t p)

-- nor do wants
abbrev pub WantsFallWithConsumers : Type 0 → Type 0
WantsFallWithConsumers C =
    (small large : ℕ → Counts) → AreAtMost small large → (t : Topology C) (keep : Consumer → Bool)
    → (c : Consumer) → IsAtMost (want small (keep_consumers t keep) c) (want large t c)

-- What the tests say

-- of two different consumers of the list either the one doesn't write, or the other holds no exclusive count
abbrev pub NoneInTheWay : {C : Type 0} → (ℕ → Counts) → Topology C → List Consumer → Type 0
NoneInTheWay granted t cs =
    All (λ a. All (λ b. a.number ≢ b.number → ((want granted t a).w ≡ 0) ⊎ ((want granted t b).e ≡ 0)) cs) cs

-- no writer stands beside another's exclusive count just where that holds at each provider
abbrev pub ExclusiveMeans : Type 0 → Type 0
ExclusiveMeans C =
    (granted : ℕ → Counts) (t : Topology C)
    → IsTrue (is_exclusive granted t)
    ↔ All (λ (x : Provider). NoneInTheWay granted t (attached_to t x.number)) t.providers

-- the greatest counts that a provider may have
abbrev pub greatest_counts : Counts
greatest_counts = record { r = MAX_ACCESS_COUNT; w = MAX_ACCESS_COUNT; e = MAX_ACCESS_COUNT }

-- no count is above the limit just where each provider's counts are at most these
abbrev pub LimitMeans : Type 0 → Type 0
LimitMeans C =
    (granted : ℕ → Counts) (t : Topology C)
    → IsTrue (fits_limit granted t)
    ↔ All (λ (x : Provider). IsAtMost (have granted t x.number) greatest_counts) t.providers

-- Less demand

-- with smaller grants and fewer consumers none comes to stand in another's way
abbrev pub LessStaysExclusive : Type 0 → Type 0
LessStaysExclusive C =
    (small large : ℕ → Counts) → AreAtMost small large → (t : Topology C) (keep : Consumer → Bool)
    → IsTrue (is_exclusive large t) → IsTrue (is_exclusive small (keep_consumers t keep))

-- with smaller grants and fewer consumers no count comes above the limit
abbrev pub LessStaysLimited : Type 0 → Type 0
LessStaysLimited C =
    (small large : ℕ → Counts) → AreAtMost small large → (t : Topology C) (keep : Consumer → Bool)
    → IsTrue (fits_limit large t) → IsTrue (fits_limit small (keep_consumers t keep))

-- with smaller grants alone
abbrev pub SmallerStaysExclusive : Type 0 → Type 0
SmallerStaysExclusive C =
    (small large : ℕ → Counts) → AreAtMost small large → (t : Topology C)
    → IsTrue (is_exclusive large t) → IsTrue (is_exclusive small t)

-- and no count comes above the limit
abbrev pub SmallerStaysLimited : Type 0 → Type 0
SmallerStaysLimited C =
    (small large : ℕ → Counts) → AreAtMost small large → (t : Topology C)
    → IsTrue (fits_limit large t) → IsTrue (fits_limit small t)
