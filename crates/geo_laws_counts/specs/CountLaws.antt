-- Laws of access counts in one state (g_access(9)).
use Rattle.std.specs.Prelude.{◌≡◌, ◌≢◌, ℕ, ◌<◌, ◌≤◌, Bool, true, false, [], map, length, Some, All, Contains, IsTrue}
use Rattle.std.specs.List.Sorted.{IsStrictlyIncreasing}
use Rattle.geo_model.specs.Kind.TheVariants as kinds
use Rattle.geo_model.specs.Counts.{Counts}
use Rattle.geo_model.specs.Words.{is_granted_kind, is_kind}
use Rattle.geo_model.specs.Topology.{Topology, Geom, Consumer, geom_at, attached_to, providers_of}
use Rattle.geo_model.specs.Rank.{Ranked}
use Rattle.geo_model.specs.Demand.{have, have_within, want, want_given, no_counts, sum_counts}
use Rattle.geo_laws_counts.specs.CountWords.{NumbersLead, SameAbove, IsOnlyOne}

-- the counts of a provider are the sum of what the consumers attached to it want
abbrev pub CountsAreSums : Type 0 → Type 0
CountsAreSums C =
    (granted : ℕ → Counts) (t : Topology C) → Ranked t → NumbersLead t
    → (p : ℕ) → have granted t p ≡ sum_counts (map (want granted t) (attached_to t p))

-- as many levels as there are geoms are enough
abbrev pub EnoughLevels : Type 0 → Type 0
EnoughLevels C =
    (granted : ℕ → Counts) (t : Topology C) → Ranked t → NumbersLead t
    → (levels : ℕ) → length t.geoms ≤ levels → (p : ℕ) → have_within granted levels t p ≡ have granted t p

-- counters that are at each provider the sum of what its consumers want by these counters are the counts
abbrev pub CountersAreCounts : Type 0 → Type 0
CountersAreCounts C =
    (granted : ℕ → Counts) (t : Topology C) → Ranked t → NumbersLead t
    → (counter : ℕ → Counts)
    → All (λ x. counter x.number ≡ sum_counts (map (want_given granted counter t) (attached_to t x.number))) t.providers
    → All (λ x. counter x.number ≡ have granted t x.number) t.providers

-- two graphs that are the same above the providers that pass a test give these the same counts
abbrev pub CountsDependOnAbove : Type 0 → Type 0 → Type 0
CountsDependOnAbove C D =
    (granted : ℕ → Counts) (t : Topology C) (other : ℕ → Counts) (u : Topology D)
    → Ranked t → NumbersLead t → Ranked u → NumbersLead u
    → (test : ℕ → Bool) → SameAbove granted t other u (λ p. IsTrue (test p))
    → (p : ℕ) → IsTrue (test p) → have other u p ≡ have granted t p

-- a provider to which nothing is attached has no counts
abbrev pub NothingAttached : Type 0 → Type 0
NothingAttached C = (granted : ℕ → Counts) (t : Topology C) (p : ℕ) → attached_to t p ≡ []
    → have granted t p ≡ no_counts

-- a consumer of DEV or TASTE wants what it is granted
abbrev pub GrantsAreWanted : Type 0 → Type 0
GrantsAreWanted C =
    (granted : ℕ → Counts) (t : Topology C) (c : Consumer) (g : Geom C)
    → geom_at t c.geom ≡ Some g → is_granted_kind g.kind ≡ true → want granted t c ≡ granted c.number

-- a consumer of another class with no count above wants nothing
abbrev pub NothingAbove : Type 0 → Type 0
NothingAbove C =
    (granted : ℕ → Counts) (t : Topology C) (c : Consumer) (g : Geom C)
    → geom_at t c.geom ≡ Some g → is_granted_kind g.kind ≡ false
    → All (λ y. have granted t y.number ≡ no_counts) (providers_of t g.number) → want granted t c ≡ no_counts

-- and one that wants nothing has no count above, but for one of a disk, which never wants anything
abbrev pub WantsNothing : Type 0 → Type 0
WantsNothing C =
    (granted : ℕ → Counts) (t : Topology C) (c : Consumer) (g : Geom C)
    → geom_at t c.geom ≡ Some g → is_granted_kind g.kind ≡ false → is_kind g.kind kinds.Disk ≡ false
    → want granted t c ≡ no_counts → All (λ y. have granted t y.number ≡ no_counts) (providers_of t g.number)

-- where numbers rise, each provider is the one that its number leads to
abbrev pub RisingNumbersLead : Type 0 → Type 0
RisingNumbersLead C = (t : Topology C) → IsStrictlyIncreasing (map (λ x. x.number) t.providers) → NumbersLead t

-- no other consumer has a consumer's number
abbrev pub RisingNumbersDiffer : Type 0 → Type 0
RisingNumbersDiffer C =
    (t : Topology C) → IsStrictlyIncreasing (map (λ x. x.number) t.consumers)
    → (d : Consumer) → Contains t.consumers d → IsOnlyOne t d

-- and no consumer has the next number
abbrev pub NextNumbersAreFree : Type 0 → Type 0
NextNumbersAreFree C =
    (t : Topology C) → All (λ n. n < t.next_consumer) (map (λ x. x.number) t.consumers)
    → All (λ c. c.number ≢ t.next_consumer) t.consumers
