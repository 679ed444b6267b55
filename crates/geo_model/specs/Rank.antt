-- Ranks, and what an attach answers (geom(4), g_attach(9)).
use Rattle.std.specs.Prelude.{ℕ, zero, suc, ◌+◌, ◌<◌, ◌==◌, nat_lt, Bool, false, not, ◌&&◌, List, [], ◌∷◌, length, map, filter_map, flat_map, Option, Some, All, IfSome, IsSomeAnd, option_map}
use Rattle.std.specs.List.{list_any}
use Rattle.geo_base.specs.declared.errno.Errno.{Errno}
use Rattle.geo_base.specs.declared.errno.Errno.TheVariants.{ENXIO, ELOOP, EDEEP}
use Rattle.geo_base.specs.declared.limits.TheConstants.{MAX_RANK}
use Rattle.geo_model.specs.Words.{largest, first_error, is_granted_kind}
use Rattle.geo_model.specs.Topology.{Topology, provider_at, consumer_at, providers_under, attach, is_errored, Consumer, Provider}

-- the geoms whose providers the consumers of a geom are attached to
abbrev pub geoms_under : {C : Type 0} → Topology C → ℕ → List ℕ
geoms_under t g = filter_map (λ p. option_map (λ x. x.geom) (provider_at t p)) (providers_under t g)

-- the rank over so many levels: one more than the highest rank below, and 1 where nothing is below
abbrev pub rank_within : {C : Type 0} → ℕ → Topology C → ℕ → ℕ
rank_within zero t g = 1
rank_within (suc levels) t g = 1 + largest (map (rank_within levels t) (geoms_under t g))

-- the rank of a geom (geom(4))
abbrev pub rank : {C : Type 0} → Topology C → ℕ → ℕ
rank t g = rank_within (length t.geoms) t g

-- each attached consumer's geom has a greater rank than the geom of its provider
abbrev pub Ranked : {C : Type 0} → Topology C → Type 0
Ranked t = All
    (λ c. IfSome c.provider (λ p. IsSomeAnd (provider_at t p) (λ x. rank t x.geom < rank t c.geom))) t.consumers

-- the geom, and over so many levels each geom that is reached downwards from it
abbrev pub geoms_reached_within : {C : Type 0} → ℕ → Topology C → ℕ → List ℕ
geoms_reached_within zero t g = g ∷ []
geoms_reached_within (suc levels) t g = g ∷ flat_map (geoms_reached_within levels t) (geoms_under t g)

-- whether one geom is the other, or is reached downwards from it
abbrev pub reaches : {C : Type 0} → Topology C → ℕ → ℕ → Bool
reaches t from_geom to_geom = list_any (λ g. g == to_geom) (geoms_reached_within (length t.geoms) t from_geom)

-- whether a geom other than DEV and TASTE has a rank above the limit
abbrev pub is_too_deep : {C : Type 0} → Topology C → Bool
is_too_deep t = list_any (λ x. not (is_granted_kind x.kind) && nat_lt MAX_RANK (rank t x.number)) t.geoms

-- whether the geom of the consumer would reach itself
abbrev pub would_loop : {C : Type 0} → Topology C → Option Consumer → Option Provider → Bool
would_loop t (Some c) (Some p) = reaches t p.geom c.geom
would_loop t _ _ = false

-- what refuses that a consumer is attached to a provider, if anything does (g_attach(9))
abbrev pub attach_refusal : {C : Type 0} → Topology C → ℕ → ℕ → Option Errno
attach_refusal t c p =
    first_error
    ((is_errored t p, ENXIO)
    ∷ (would_loop t (consumer_at t c) (provider_at t p), ELOOP)
    ∷ (is_too_deep (attach t c p), EDEEP)
    ∷ [])
