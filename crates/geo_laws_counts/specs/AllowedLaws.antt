-- Laws of demands that aren't refused, and of write counts that leave zero or come to it (g_access(9)).
use Rattle.std.specs.Prelude.{◌≡◌, ◌↔◌, ℕ, false, List, [], Some, None, All, Contains, IsSomeAnd, IsTrue}
use Rattle.geo_model.specs.Counts.{Counts}
use Rattle.geo_model.specs.Topology.{Topology, Consumer, attached_to, providers_of, find_provider, add_consumer, remove_consumer}
use Rattle.geo_model.specs.Rank.{Ranked}
use Rattle.geo_model.specs.Demand.{have, is_exclusive, fits_limit, risen, fallen}
use Rattle.geo_model.specs.Opens.{below, has_error_below, grant_refusal, open_refusal, with_grant, with_opener}
use Rattle.geo_laws_counts.specs.CountWords.{IsAtMost, AreAtMost, AgreeExcept, NumbersLead}
use Rattle.geo_laws_counts.specs.LimitLaws.{NoneInTheWay, greatest_counts}
use Rattle.geo_laws_counts.specs.DemandLaws.{Comes, DiffersAt, Goes, StaysAround}

-- A demand that isn't refused

-- nothing refuses a demand above the provider: there is no error below, nobody stands in another's way, no count is
-- too great
pub record IsAllowed {C : Type 0} (granted : ℕ → Counts) (t : Topology C) (p : ℕ) : Type 0 where
  pub errors : has_error_below t p ≡ false
  pub exclusive : IsTrue (is_exclusive granted t)
  pub limit : IsTrue (fits_limit granted t)

-- a demand isn't refused just where it is allowed in the state in which it stands
abbrev pub GrantsAreAllowed : Type 0 → Type 0
GrantsAreAllowed C = (granted : ℕ → Counts) (t : Topology C) (p : ℕ) → grant_refusal granted t p ≡ None
    ↔ IsAllowed granted t p

-- and so an open, in the state with its consumer and its grant
abbrev pub OpensAreAllowed : Type 0 → Type 0
OpensAreAllowed C =
    (granted : ℕ → Counts) (t : Topology C) (name : List ℕ) (grant : Counts)
    → open_refusal granted t name grant ≡ None
    ↔ IsSomeAnd (find_provider t name) (λ p. IsAllowed (with_grant granted t.next_consumer grant) (with_opener t p) p)

-- so with its grant none stands in another's way and no count is above the limit, by any grants that agree with these
abbrev pub OpenedStaysAllowed : Type 0 → Type 0
OpenedStaysAllowed C =
    (granted : ℕ → Counts) (t : Topology C) (after : ℕ → Counts) (name : List ℕ)
    → AgreeExcept t.next_consumer granted after → open_refusal granted t name (after t.next_consumer) ≡ None
    → IsSomeAnd (find_provider t name) (λ p. IsAllowed after (with_opener t p) p)

-- where only some providers change, it is enough to look at these
abbrev pub ChangedAreEnoughForExclusive : Type 0 → Type 0
ChangedAreEnoughForExclusive C =
    (granted : ℕ → Counts) (t : Topology C) (after : ℕ → Counts) (u : Topology C) (changed : List ℕ)
    → StaysAround granted t after u changed → u.providers ≡ t.providers → IsTrue (is_exclusive granted t)
    → All (λ x. Contains changed x.number → NoneInTheWay after u (attached_to u x.number)) t.providers
    → IsTrue (is_exclusive after u)

-- and so for the limit
abbrev pub ChangedAreEnoughForLimit : Type 0 → Type 0
ChangedAreEnoughForLimit C =
    (granted : ℕ → Counts) (t : Topology C) (after : ℕ → Counts) (u : Topology C) (changed : List ℕ)
    → StaysAround granted t after u changed → u.providers ≡ t.providers → IsTrue (fits_limit granted t)
    → All (λ x. Contains changed x.number → IsAtMost (have after u x.number) greatest_counts) t.providers
    → IsTrue (fits_limit after u)

-- nor where a consumer of DEV or TASTE goes
abbrev pub GoingStaysExclusive : Type 0 → Type 0
GoingStaysExclusive C =
    (granted : ℕ → Counts) (t : Topology C) (after : ℕ → Counts) (d : Consumer) → Goes granted t after d
    → IsTrue (is_exclusive granted t) → IsTrue (is_exclusive after (remove_consumer t d.number))

-- and no count comes above the limit
abbrev pub GoingStaysLimited : Type 0 → Type 0
GoingStaysLimited C =
    (granted : ℕ → Counts) (t : Topology C) (after : ℕ → Counts) (d : Consumer) → Goes granted t after d
    → IsTrue (fits_limit granted t) → IsTrue (fits_limit after (remove_consumer t d.number))

-- Write counts that leave zero or come to it

-- where no count rises, none leaves zero
abbrev pub NoneRises : Type 0 → Type 0
NoneRises C =
    (granted : ℕ → Counts) (t : Topology C) (after : ℕ → Counts) (u : Topology C)
    → ((p : ℕ) → IsAtMost (have after u p) (have granted t p)) → risen granted t after u ≡ []

-- where no count falls, none comes to zero
abbrev pub NoneFalls : Type 0 → Type 0
NoneFalls C =
    (granted : ℕ → Counts) (t : Topology C) (after : ℕ → Counts) (u : Topology C)
    → ((p : ℕ) → IsAtMost (have granted t p) (have after u p)) → fallen granted t after u ≡ []

-- what rises and what falls is among what changes
abbrev pub RisenAmongChanged : Type 0 → Type 0
RisenAmongChanged C =
    (granted : ℕ → Counts) (t : Topology C) (after : ℕ → Counts) (u : Topology C) (changed : List ℕ)
    → StaysAround granted t after u changed → All (Contains changed) (risen granted t after u)

-- and so is what falls
abbrev pub FallenAmongChanged : Type 0 → Type 0
FallenAmongChanged C =
    (granted : ℕ → Counts) (t : Topology C) (after : ℕ → Counts) (u : Topology C) (changed : List ℕ)
    → StaysAround granted t after u changed → All (Contains changed) (fallen granted t after u)

-- where one consumer's grant rises, what rises is reached downwards from its provider, and nothing falls
abbrev pub RisingGrantsRiseBelow : Type 0 → Type 0
RisingGrantsRiseBelow C =
    (small large : ℕ → Counts) (t : Topology C) (c p : ℕ) → AreAtMost small large → DiffersAt small large t c p
    → Ranked t → NumbersLead t
    → All (Contains (below t p)) (risen small t large t) × (fallen small t large t ≡ [])

-- where it falls, what falls is reached, and nothing rises
abbrev pub FallingGrantsFallBelow : Type 0 → Type 0
FallingGrantsFallBelow C =
    (small large : ℕ → Counts) (t : Topology C) (c p : ℕ) → AreAtMost small large → DiffersAt large small t c p
    → Ranked t → NumbersLead t
    → All (Contains (below t p)) (fallen large t small t) × (risen large t small t ≡ [])

-- the same where a consumer of DEV or TASTE comes
abbrev pub ComingRisesBelow : Type 0 → Type 0
ComingRisesBelow C =
    (granted : ℕ → Counts) (t : Topology C) (after : ℕ → Counts) (geom p : ℕ) → Comes granted t after geom
    → Ranked (add_consumer t geom (Some p)) → NumbersLead t → providers_of t geom ≡ []
    → All (Contains (below t p)) (risen granted t after (add_consumer t geom (Some p)))
    × (fallen granted t after (add_consumer t geom (Some p)) ≡ [])

-- and where one goes
abbrev pub GoingFallsBelow : Type 0 → Type 0
GoingFallsBelow C =
    (granted : ℕ → Counts) (t : Topology C) (after : ℕ → Counts) (d : Consumer) (p : ℕ) → Goes granted t after d
    → d.provider ≡ Some p → Ranked t → NumbersLead t
    → All (Contains (below t p)) (fallen granted t after (remove_consumer t d.number))
    × (risen granted t after (remove_consumer t d.number) ≡ [])
