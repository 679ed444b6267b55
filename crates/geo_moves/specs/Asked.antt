-- What a handle's request is answered, by the graph and the handles.
use Rattle.std.specs.Prelude.{◌≡◌, ℕ, ◌+◌, ◌%◌, ◌==◌, nat_lt, Bool, false, not, ◌&&◌, ◌||◌, List, [], ◌∷◌, Option, Some, None, Result, Ok, Err, IsSome, IsSomeAnd, IsTrue, option_and_then, if◌then◌else◌}
use Rattle.std.specs.Option.{option_map, option_map_or}
use Rattle.geo_base.specs.Name.{is_short_name}
use Rattle.geo_base.specs.declared.errno.Errno.{Errno}
use Rattle.geo_base.specs.declared.errno.Errno.TheVariants.{EBADF, ENXIO, EPERM, EINVAL, EIO}
use Rattle.geo_base.specs.declared.request.Counts.{Counts}
use Rattle.geo_base.specs.declared.limits.TheConstants.{MAX_REQUEST_BYTES}
use Rattle.geo_model.specs.Topology.{Topology, Provider, provider_at, consumer_at, provider_of_consumer}
use Rattle.geo_model.specs.World.{Config, Handle}
use Rattle.geo_model.specs.Records.{label_sector, concat_sector, stripe_sector}
use Rattle.geo_model.specs.Requests.{Asking, request_refusal_at, is_allowed, is_invalid_range}
use Rattle.geo_model.specs.Words.{first_error, is_flush}
use Rattle.geo_moves.specs.declared.gate.Gate.{Gate}
use Rattle.geo_moves.specs.declared.mark.Mark.{Mark}
use Rattle.geo_moves.specs.declared.mark.Mark.TheVariants as marks

-- whether a range isn't one or more whole sectors of at most the longest request
abbrev pub not_whole : ℕ → ℕ → ℕ → Bool
not_whole sector offset len =
    not (offset % sector == 0) || (not (len % sector == 0) || ((len == 0) || nat_lt MAX_REQUEST_BYTES len))

-- what refuses a request to a provider by what was granted
abbrev pub refusal_by_grant : Counts → Provider → Asking → Option Errno
refusal_by_grant grant p a =
    first_error
    ((not (is_allowed grant a.cmd), EPERM)
    ∷ (p.errored, ENXIO)
    ∷ (not (is_flush a.cmd) && is_invalid_range p.sector a, EINVAL)
    ∷ (not (is_flush a.cmd) && nat_lt p.size (a.offset + a.len), EIO)
    ∷ [])

-- a consumer with the provider to which it is attached
abbrev pub attached_at : ℕ → Option ℕ → Option (ℕ × ℕ)
attached_at source None = None
attached_at source (Some target) = Some (source, target)

abbrev pub attached : Topology Config → Option ℕ → Option (ℕ × ℕ)
attached t None = None
attached t (Some source) = attached_at source (provider_of_consumer t source)

-- the provider to which a consumer is attached, if it is there
abbrev pub provider_attached : Topology Config → Option ℕ → Option Provider
provider_attached t c = option_and_then (provider_at t) (option_and_then (provider_of_consumer t) c)

-- what refuses a request through a handle, by its provider
abbrev pub refusal_below : Handle → Option Provider → Asking → Option Errno
refusal_below h p a = option_map_or (λ q. request_refusal_at h q a) p (Some ENXIO)

-- what refuses a request through a handle
abbrev pub refusal_of : Topology Config → Handle → Asking → Option Errno
refusal_of t h a = if h.dead then Some ENXIO else refusal_below h (provider_attached t h.consumer) a

-- what refuses it, where there may be no handle
abbrev pub refusal_by : Topology Config → Option Handle → Asking → Option Errno
refusal_by t None a = Some EBADF
refusal_by t (Some h) a = refusal_of t h a

-- the handle lets a request through: by its consumer, to its provider
pub record LetsThrough (t : Topology Config) (h : Handle) (gate : Gate) (a : Asking) : Type 0 where
  pub number : h.number ≡ gate.handle
  pub alive : h.dead ≡ false
  pub consumer : h.consumer ≡ Some gate.source
  pub lives : IsSome (consumer_at t gate.source)
  pub provider : IsSomeAnd (provider_attached t h.consumer) (λ p. p.number ≡ gate.target)
  pub allowed : refusal_of t h a ≡ None

-- the answer of a handle to a request
abbrev pub IsHandlesAnswer : Topology Config → Handle → Asking → Result Gate Errno → Type 0
IsHandlesAnswer t h a (Ok gate) = LetsThrough t h gate a
IsHandlesAnswer t h a (Err e) = refusal_of t h a ≡ Some e

-- the answer to a request, where there may be no handle
abbrev pub IsGatesAnswer : Topology Config → Option Handle → Asking → Result Gate Errno → Type 0
IsGatesAnswer t o a (Ok gate) = IsSomeAnd o (λ h. LetsThrough t h gate a)
IsGatesAnswer t o a (Err e) = refusal_by t o a ≡ Some e

-- Records

-- the sector of a record for a provider of a size with sectors of so many bytes
abbrev pub mark_bytes : Mark → ℕ → ℕ → List ℕ
mark_bytes (marks.Label name) size sector = label_sector sector (record { name = name; size = None })
mark_bytes (marks.Relabel name) size sector = label_sector sector (record { name = name; size = Some size })
mark_bytes (marks.Concat part) size sector = concat_sector sector part
mark_bytes (marks.Stripe part) size sector = stripe_sector sector part

-- the sector of a record for a provider
abbrev pub mark_sector : Mark → Provider → List ℕ
mark_sector mark p = mark_bytes mark p.size p.sector

-- the size of a provider, and that of its sectors
abbrev pub media_sizes : Option Provider → Option (ℕ × ℕ)
media_sizes p = option_map (λ q. (q.size, q.sector)) p

-- the name in a record is short
abbrev pub IsShortMark : Mark → Type 0
IsShortMark (marks.Label name) = IsTrue (is_short_name name)
IsShortMark (marks.Relabel name) = IsTrue (is_short_name name)
IsShortMark (marks.Concat part) = IsTrue (is_short_name part.name)
IsShortMark (marks.Stripe part) = IsTrue (is_short_name part.name)
