-- What a demand that comes or goes does to counts (g_access(9)).
use Rattle.std.specs.Prelude.{◌≡◌, ◌≢◌, ℕ, ◌==◌, List, [], map, Some, All, Contains, IsSomeAnd, if◌then◌else◌}
use Rattle.geo_model.specs.Counts.{Counts}
use Rattle.geo_model.specs.Topology.{Topology, Geom, Consumer, geom_at, provider_at, providers_of, attached_to, add_consumer, remove_consumer}
use Rattle.geo_model.specs.Rank.{Ranked}
use Rattle.geo_model.specs.Opens.{below, has_error_below}
use Rattle.geo_model.specs.Demand.{have, want, no_counts, add_counts, sum_counts}
use Rattle.geo_laws_counts.specs.CountWords.{IsAtMost, AreAtMost, more_counts, gain_of_kind, NumbersLead, DemandStays, AgreeExcept, HoldsGrants, IsOnlyOne, kind_at}

-- Grants that rise, at any consumers, in one graph; read backwards, grants that fall

-- what a provider has more is the sum of what its consumers want more
abbrev pub ProvidersGain : Type 0 → Type 0
ProvidersGain C =
    (small large : ℕ → Counts) → AreAtMost small large → (t : Topology C) → Ranked t → NumbersLead t
    → (p : ℕ)
    → have large t p
    ≡ add_counts (have small t p)
    (sum_counts (map (λ c. more_counts (want small t c) (want large t c)) (attached_to t p)))

-- what a consumer wants more follows from what its geom's providers had and have more, and its grant
abbrev pub ConsumersGain : Type 0 → Type 0
ConsumersGain C =
    (small large : ℕ → Counts) → AreAtMost small large → (t : Topology C)
    → (c : Consumer) (g : Geom C) → geom_at t c.geom ≡ Some g
    → want large t c
    ≡ add_counts (want small t c)
    (gain_of_kind g.kind
    (map (λ x. have small t x.number) (providers_of t g.number))
    (map (λ x. more_counts (have small t x.number) (have large t x.number)) (providers_of t g.number))
    (more_counts (small c.number) (large c.number)))

-- a consumer wants the same where its class, its grant and its geom's providers, with their counts, are the same
abbrev pub WantsDependOnCounts : Type 0 → Type 0 → Type 0
WantsDependOnCounts C D =
    (granted : ℕ → Counts) (t : Topology C) (other : ℕ → Counts) (u : Topology D) (c : Consumer)
    → other c.number ≡ granted c.number → kind_at u c.geom ≡ kind_at t c.geom
    → providers_of u c.geom ≡ providers_of t c.geom
    → All (λ y. have other u y.number ≡ have granted t y.number) (providers_of t c.geom)
    → want other u c ≡ want granted t c

-- One consumer's demand

-- the list of what is below a provider has the provider, and whatever a consumer of a geom in it is attached to
abbrev pub BelowIsClosed : Type 0 → Type 0
BelowIsClosed C =
    (t : Topology C) → Ranked t → (p y q : ℕ) (d : Consumer) → Contains t.consumers d → d.provider ≡ Some q
    → IsSomeAnd (provider_at t y) (λ x. x.geom ≡ d.geom) → Contains (below t p) y → Contains (below t p) q

-- it begins at the provider itself
abbrev pub BelowBeginsAtIt : Type 0 → Type 0
BelowBeginsAtIt C = (t : Topology C) (p : ℕ) → Contains (below t p) p

-- the grant of one consumer alone differs, and it is attached to the provider
pub record DiffersAt {C : Type 0} (granted other : ℕ → Counts) (t : Topology C) (c p : ℕ) : Type 0 where
  pub agree : AgreeExcept c granted other
  pub place : All (λ d. d.number ≡ c → d.provider ≡ Some p) t.consumers

-- each provider that isn't on the list has the counts and the consumers that it had, and these want what they wanted
pub record StaysAround {C : Type 0} (granted : ℕ → Counts) (t : Topology C) (other : ℕ
    → Counts) (u : Topology C) (changed : List ℕ)
    : Type 0 where
  pub haves : (q : ℕ) → (Contains changed q → ⊥) → have other u q ≡ have granted t q
  pub attached : (q : ℕ) → (Contains changed q → ⊥) → attached_to u q ≡ attached_to t q
  pub wants : (q : ℕ) → (Contains changed q → ⊥) → (c : Consumer) → Contains (attached_to t q) c
      → want other u c ≡ want granted t c

-- another grant changes only what is reached downwards
abbrev pub GrantsChangeBelow : Type 0 → Type 0
GrantsChangeBelow C =
    (granted other : ℕ → Counts) (t : Topology C) (c p : ℕ) → DiffersAt granted other t c p → Ranked t → NumbersLead t
    → StaysAround granted t other t (below t p)

-- a new consumer of DEV or TASTE comes to the provider, with a new number; the other grants stay
pub record Comes {C : Type 0} (granted : ℕ → Counts) (t : Topology C) (after : ℕ → Counts) (geom : ℕ) : Type 0 where
  pub free : All (λ c. c.number ≢ t.next_consumer) t.consumers
  pub kind : HoldsGrants t geom
  pub agree : AgreeExcept t.next_consumer granted after

-- without a grant it changes nothing
abbrev pub ComesQuietly : Type 0 → Type 0
ComesQuietly C =
    (granted : ℕ → Counts) (t : Topology C) (after : ℕ → Counts) (geom p : ℕ) → Comes granted t after geom
    → after t.next_consumer ≡ no_counts
    → DemandStays granted t after (add_consumer t geom (Some p)) (Contains t.consumers)

-- with one no count falls
abbrev pub ComingRaises : Type 0 → Type 0
ComingRaises C =
    (granted : ℕ → Counts) (t : Topology C) (after : ℕ → Counts) (geom p : ℕ) → Comes granted t after geom
    → (q : ℕ) → IsAtMost (have granted t q) (have after (add_consumer t geom (Some p)) q)

-- only what is reached downwards changes
abbrev pub ComingChangesBelow : Type 0 → Type 0
ComingChangesBelow C =
    (granted : ℕ → Counts) (t : Topology C) (after : ℕ → Counts) (geom p : ℕ) → Comes granted t after geom
    → Ranked (add_consumer t geom (Some p)) → NumbersLead t → providers_of t geom ≡ []
    → StaysAround granted t after (add_consumer t geom (Some p)) (below t p)

-- a new consumer of a geom without providers changes nothing below
abbrev pub ComingKeepsBelow : Type 0 → Type 0
ComingKeepsBelow C =
    (t : Topology C) (geom p : ℕ) → providers_of t geom ≡ [] → (q : ℕ)
    → below (add_consumer t geom (Some p)) q ≡ below t q

-- nor whether an error is below
abbrev pub ComingKeepsErrors : Type 0 → Type 0
ComingKeepsErrors C =
    (t : Topology C) (geom p : ℕ) → providers_of t geom ≡ []
    → (q : ℕ) → has_error_below (add_consumer t geom (Some p)) q ≡ has_error_below t q

-- what a provider gains is the sum of what its consumers gain, and at p the new grant
abbrev pub ComingProvidersGain : Type 0 → Type 0
ComingProvidersGain C =
    (granted : ℕ → Counts) (t : Topology C) (after : ℕ → Counts) (geom p : ℕ) → Comes granted t after geom
    → Ranked (add_consumer t geom (Some p)) → NumbersLead t → (q : ℕ)
    → have after (add_consumer t geom (Some p)) q
    ≡ add_counts (have granted t q)
    (add_counts
    (sum_counts (map (λ c. more_counts (want granted t c) (want after (add_consumer t geom (Some p)) c))
    (attached_to t q)))
    (if p == q then after t.next_consumer else no_counts))

-- what a consumer gains follows from what its geom's providers had and gain
abbrev pub ComingConsumersGain : Type 0 → Type 0
ComingConsumersGain C =
    (granted : ℕ → Counts) (t : Topology C) (after : ℕ → Counts) (geom p : ℕ) → Comes granted t after geom
    → (c : Consumer) (g : Geom C) → Contains t.consumers c → geom_at t c.geom ≡ Some g
    → want after (add_consumer t geom (Some p)) c
    ≡ add_counts (want granted t c)
    (gain_of_kind g.kind
    (map (λ x. have granted t x.number) (providers_of t g.number))
    (map (λ x. more_counts (have granted t x.number) (have after (add_consumer t geom (Some p)) x.number))
    (providers_of t g.number))
    no_counts)

-- a consumer of DEV or TASTE goes; the other grants stay
pub record Goes {C : Type 0} (granted : ℕ → Counts) (t : Topology C) (after : ℕ → Counts) (d : Consumer) : Type 0 where
  pub only : IsOnlyOne t d
  pub kind : HoldsGrants t d.geom
  pub agree : AgreeExcept d.number granted after

-- without a grant it changes nothing
abbrev pub GoesQuietly : Type 0 → Type 0
GoesQuietly C =
    (granted : ℕ → Counts) (t : Topology C) (after : ℕ → Counts) (d : Consumer) → Goes granted t after d
    → granted d.number ≡ no_counts
    → DemandStays granted t after (remove_consumer t d.number) (Contains (remove_consumer t d.number).consumers)

-- with one no count rises
abbrev pub GoingLowers : Type 0 → Type 0
GoingLowers C =
    (granted : ℕ → Counts) (t : Topology C) (after : ℕ → Counts) (d : Consumer) → Goes granted t after d
    → (q : ℕ) → IsAtMost (have after (remove_consumer t d.number) q) (have granted t q)

-- only what is reached downwards changes
abbrev pub GoingChangesBelow : Type 0 → Type 0
GoingChangesBelow C =
    (granted : ℕ → Counts) (t : Topology C) (after : ℕ → Counts) (d : Consumer) (p : ℕ) → Goes granted t after d
    → d.provider ≡ Some p → Ranked t → NumbersLead t
    → StaysAround granted t after (remove_consumer t d.number) (below t p)

-- a removed consumer of a geom without providers changes nothing below
abbrev pub GoingKeepsBelow : Type 0 → Type 0
GoingKeepsBelow C =
    (t : Topology C) (c : ℕ) → All (λ x. x.number ≡ c → providers_of t x.geom ≡ []) t.consumers
    → (q : ℕ) → below (remove_consumer t c) q ≡ below t q

-- what a provider loses is the sum of what its consumers lose, and at p the grant that goes
abbrev pub GoingProvidersLose : Type 0 → Type 0
GoingProvidersLose C =
    (granted : ℕ → Counts) (t : Topology C) (after : ℕ → Counts) (d : Consumer) (p : ℕ) → Goes granted t after d
    → d.provider ≡ Some p → Ranked t → NumbersLead t → (q : ℕ)
    → have granted t q
    ≡ add_counts (have after (remove_consumer t d.number) q)
    (add_counts
    (sum_counts
    (map (λ c. more_counts (want after (remove_consumer t d.number) c) (want granted t c))
    (attached_to (remove_consumer t d.number) q)))
    (if p == q then granted d.number else no_counts))

-- what a consumer loses follows from what its geom's providers keep and lose
abbrev pub GoingConsumersLose : Type 0 → Type 0
GoingConsumersLose C =
    (granted : ℕ → Counts) (t : Topology C) (after : ℕ → Counts) (d : Consumer) → Goes granted t after d
    → (c : Consumer) (g : Geom C) → Contains (remove_consumer t d.number).consumers c → geom_at t c.geom ≡ Some g
    → want granted t c
    ≡ add_counts (want after (remove_consumer t d.number) c)
    (gain_of_kind g.kind
    (map (λ x. have after (remove_consumer t d.number) x.number) (providers_of t g.number))
    (map (λ x. more_counts (have after (remove_consumer t d.number) x.number) (have granted t x.number))
    (providers_of t g.number))
    no_counts)
