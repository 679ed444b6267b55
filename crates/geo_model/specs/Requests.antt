-- What a request through a handle answers (g_bio(9)).
use Rattle.std.specs.Prelude.{ℕ, ◌+◌, ◌%◌, ◌==◌, nat_lt, Bool, not, ◌&&◌, ◌||◌, List, [], ◌∷◌, Option, Some, None, option_and_then, if◌then◌else◌}
use Rattle.std.specs.Option.{option_map_or}
use Rattle.geo_base.specs.declared.request.BioCmd.{BioCmd}
use Rattle.geo_base.specs.declared.request.Counts.{Counts}
use Rattle.geo_base.specs.declared.errno.Errno.{Errno}
use Rattle.geo_base.specs.declared.errno.Errno.TheVariants.{EBADF, ENXIO, EPERM, EINVAL, EIO}
use Rattle.geo_base.specs.declared.limits.TheConstants.{MAX_REQUEST_BYTES}
use Rattle.geo_model.specs.Words.{first_error, is_read, is_flush}
use Rattle.geo_model.specs.Topology.{Provider, provider_at, provider_of_consumer}
use Rattle.geo_model.specs.World.{World, Handle}

-- a request: its command, its range in bytes, and the bytes of a WRITE
pub record Asking : Type 0 where
  pub cmd : BioCmd
  pub offset : ℕ
  pub len : ℕ
  pub bytes : List ℕ

-- the provider that a handle has open
abbrev pub provider_of_handle : World → Handle → Option Provider
provider_of_handle w h =
    option_and_then (provider_at w.topology) (option_and_then (provider_of_consumer w.topology) h.consumer)

-- whether the handle's grant allows the command: a read count for READ, else a write count
abbrev pub is_allowed : Counts → BioCmd → Bool
is_allowed grant cmd = if is_read cmd then not (grant.r == 0) else not (grant.w == 0)

-- whether a range isn't one or more whole sectors of at most the longest request
abbrev pub is_invalid_range : ℕ → Asking → Bool
is_invalid_range sector a =
    not (a.offset % sector == 0) || (not (a.len % sector == 0) || ((a.len == 0) || nat_lt MAX_REQUEST_BYTES a.len))

-- what refuses a request to a provider, if anything does
abbrev pub request_refusal_at : Handle → Provider → Asking → Option Errno
request_refusal_at h p a =
    first_error
    ((not (is_allowed h.grant a.cmd), EPERM)
    ∷ (p.errored, ENXIO)
    ∷ (not (is_flush a.cmd) && is_invalid_range p.sector a, EINVAL)
    ∷ (not (is_flush a.cmd) && nat_lt p.size (a.offset + a.len), EIO)
    ∷ [])

-- what refuses a request through a handle, if anything does; a handle that isn't dead has a provider in a sound world
abbrev pub request_refusal : World → Option Handle → Asking → Option Errno
request_refusal w None a = Some EBADF
request_refusal w (Some h) a =
    if h.dead then Some ENXIO else option_map_or (λ p. request_refusal_at h p a) (provider_of_handle w h) (Some ENXIO)
