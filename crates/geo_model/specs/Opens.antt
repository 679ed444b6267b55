-- What an open answers (g_access(9)).
use Rattle.std.specs.Prelude.{ℕ, zero, suc, ◌==◌, Bool, not, List, [], ◌∷◌, length, flat_map, Option, Some, None, if◌then◌else◌}
use Rattle.std.specs.List.{list_any}
use Rattle.std.specs.Option.{option_map_or}
use Rattle.geo_base.specs.declared.request.Counts.{Counts}
use Rattle.geo_base.specs.declared.errno.Errno.{Errno}
use Rattle.geo_base.specs.declared.errno.Errno.TheVariants.{ENOENT, ENXIO, EPERM, EOVERFLOW, ELOOP, EDEEP}
use Rattle.geo_model.specs.Words.{first_error}
use Rattle.geo_model.specs.Topology.{Topology, provider_at, consumer_at, providers_under, find_provider, is_errored, add_consumer, attach}
use Rattle.geo_model.specs.Rank.{would_loop, is_too_deep}
use Rattle.geo_model.specs.Demand.{is_exclusive, fits_limit}

-- the provider, and over so many levels each provider that is reached downwards from it, once for each path
abbrev pub below_within : {C : Type 0} → ℕ → Topology C → ℕ → List ℕ
below_within zero t p = p ∷ []
below_within (suc levels) t p =
    p ∷ option_map_or (λ x. flat_map (below_within levels t) (providers_under t x.geom)) (provider_at t p) []

abbrev pub below : {C : Type 0} → Topology C → ℕ → List ℕ
below t p = below_within (length t.geoms) t p

-- whether the one provider is the other, or is reached downwards from it
abbrev pub is_below : {C : Type 0} → Topology C → ℕ → ℕ → Bool
is_below t p upper = list_any (λ q. q == p) (below t upper)

-- whether the provider, or one reached downwards from it, carries an error
abbrev pub has_error_below : {C : Type 0} → Topology C → ℕ → Bool
has_error_below t p = list_any (is_errored t) (below t p)

-- what refuses a demand above the provider, in the state in which it stands (a consumer of DEV or TASTE changes
-- nothing below)
abbrev pub grant_refusal : {C : Type 0} → (ℕ → Counts) → Topology C → ℕ → Option Errno
grant_refusal granted t p =
    first_error
    ((has_error_below t p, ENXIO)
    ∷ (not (is_exclusive granted t), EPERM)
    ∷ (not (fits_limit granted t), EOVERFLOW)
    ∷ [])

-- the grants, with this one for the consumer
abbrev pub with_grant : (ℕ → Counts) → ℕ → Counts → ℕ → Counts
with_grant granted consumer grant c = if c == consumer then grant else granted c

-- the topology with a new consumer of DEV, geom 1, at the provider
abbrev pub with_opener : {C : Type 0} → Topology C → ℕ → Topology C
with_opener t p = add_consumer t 1 (Some p)

-- what refuses that the provider of the name is opened with these counts, if anything does (g_access(9))
abbrev pub open_refusal_at : {C : Type 0} → (ℕ → Counts) → Topology C → Option ℕ → Counts → Option Errno
open_refusal_at granted t None grant = Some ENOENT
open_refusal_at granted t (Some p) grant = grant_refusal (with_grant granted t.next_consumer grant) (with_opener t p) p

abbrev pub open_refusal : {C : Type 0} → (ℕ → Counts) → Topology C → List ℕ → Counts → Option Errno
open_refusal granted t name grant = open_refusal_at granted t (find_provider t name) grant

-- what refuses that an unattached consumer of a geom is attached to one more provider, and that its wants are granted
-- there, if anything does: what is below, what is above, and then the counts in the state with the consumer attached
abbrev pub join_refusal : {C : Type 0} → (ℕ → Counts) → Topology C → ℕ → ℕ → Option Errno
join_refusal granted t c p =
    first_error
    ((has_error_below t p, ENXIO)
    ∷ (would_loop t (consumer_at t c) (provider_at t p), ELOOP)
    ∷ (is_too_deep (attach t c p), EDEEP)
    ∷ (not (is_exclusive granted (attach t c p)), EPERM)
    ∷ (not (fits_limit granted (attach t c p)), EOVERFLOW)
    ∷ [])
