-- The headline doesn't rest on this file: it tells what a refused demand names, beyond the error.
-- What a refused demand names: the provider, and the two consumers that stand in each other's way (g_access(9)).
use Rattle.std.specs.Prelude.{◌≡◌, ◌≢◌, ◌⊎◌, ℕ, ◌<◌, ◌≤◌, Some, IsSomeAnd, IsTrue, All, Contains}
use Rattle.geo_base.specs.declared.request.Counts.{Counts}
use Rattle.geo_base.specs.declared.limits.TheConstants.{MAX_ACCESS_COUNT}
use Rattle.geo_model.specs.Topology.{Topology, provider_at, consumer_at, is_errored}
use Rattle.geo_model.specs.Demand.{have, want}
use Rattle.geo_model.specs.Opens.{below}

-- of the providers below p that carry an error it has the smallest number
pub record IsFirstErrored {C : Type 0} (t : Topology C) (p found : ℕ) : Type 0 where
  pub is_below : Contains (below t p) found
  pub errored : IsTrue (is_errored t found)
  pub smallest : All (λ q. IsTrue (is_errored t q) → found ≤ q) (below t p)

-- granted tells what each consumer of DEV and TASTE is granted once the demand stands
module _ {C : Type 0} (granted : ℕ → Counts) (t : Topology C) where
  -- a consumer is attached to the provider, and what it wants has the fact
  abbrev pub WantsAt : ℕ → ℕ → (Counts → Type 0) → Type 0
  WantsAt p c Fact = IsSomeAnd (consumer_at t c) (λ x. (x.provider ≡ Some p) × Fact (want granted t x))

  -- a consumer of the provider has a write count, and another one an exclusive count
  abbrev pub StandAgainst : ℕ → ℕ → ℕ → Type 0
  StandAgainst p writer exclusive =
      (writer ≢ exclusive) × WantsAt p writer (λ a. a.w ≢ 0) × WantsAt p exclusive (λ a. a.e ≢ 0)

  -- the provider has a count above the limit
  abbrev pub IsOverLimit : ℕ → Type 0
  IsOverLimit p =
      IsSomeAnd (provider_at t p) (λ x.
      (MAX_ACCESS_COUNT < (have granted t p).r) ⊎ (MAX_ACCESS_COUNT < (have granted t p).w)
      ⊎ (MAX_ACCESS_COUNT < (have granted t p).e))
