-- What a new consumer may be attached to, so that the attach isn't refused, and which geom may get a provider
-- (g_attach(9), g_new_providerf).
use Rattle.std.specs.Prelude.{◌≡◌, ◌≢◌, ℕ, ◌<◌, false, IsSome, IsSomeAnd}
use Rattle.geo_base.specs.declared.limits.TheConstants.{MAX_RANK}
use Rattle.geo_model.specs.Topology.{Topology, geom_at, provider_at, is_withering}
use Rattle.geo_model.specs.Rank.{rank}

-- the provider lives and carries no error, and a geom over it isn't too high
abbrev pub CanStandOn : {C : Type 0} → Topology C → ℕ → Type 0
CanStandOn t prov = IsSomeAnd (provider_at t prov) (λ p. (p.errored ≡ false) × (rank t p.geom < MAX_RANK))

-- the geom stands, doesn't wither, and is neither DEV nor TASTE
pub record MayOffer {C : Type 0} (t : Topology C) (geom : ℕ) : Type 0 where
  pub lives : IsSome (geom_at t geom)
  pub stays : is_withering t geom ≡ false
  pub not_dev : geom ≢ 1
  pub not_taste : geom ≢ 2
