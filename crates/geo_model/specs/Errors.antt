-- The headline doesn't rest on this file: it tells which errors a bio met.
-- The errors that a bio met, read from the log alone: the cause of an error in a reply (g_bio(9)).
use Rattle.std.specs.Prelude.{ℕ, zero, suc, List, [], ◌∷◌, length, flat_map, Option, Some, None}
use Rattle.std.specs.List.{range_with_len}
use Rattle.std.specs.Option.{option_map_or}
use Rattle.geo_base.specs.declared.errno.Errno.{Errno}
use Rattle.geo_base.specs.declared.errno.Errno.TheVariants.{EIO}
use Rattle.geo_model.specs.declared.step.DeviceResult.{DeviceResult}
use Rattle.geo_model.specs.declared.step.DeviceResult.TheVariants as devices
use Rattle.geo_model.specs.declared.step.Outcome.{Outcome}
use Rattle.geo_model.specs.declared.step.Outcome.TheVariants as outcomes
use Rattle.geo_model.specs.World.{World, bio_at}
use Rattle.geo_model.specs.Log.{Moment}
use Rattle.geo_model.specs.Results.{bounce_errno, device_answer_of, entries_of, start_moment}

-- a device that failed gives EIO
abbrev pub device_errors : Option DeviceResult → List Errno
device_errors (Some (devices.Failed done)) = EIO ∷ []
device_errors _ = []

-- by the outcome of the Start: why it bounced, whether the device failed, or the errors of the children in piece order
abbrev pub errors_by : (ℕ → List Errno) → List Moment → ℕ → World → Outcome → List Errno
errors_by below history b before outcomes.Bounced = bounce_errno before (bio_at before b) ∷ []
errors_by below history b before (outcomes.Queued disk) = device_errors (device_answer_of (entries_of history) b)
errors_by below history b before (outcomes.Split first count) = flat_map below (range_with_len first count)
errors_by below history b before _ = []

-- the errors over so many levels
abbrev pub errors_within : ℕ → List Moment → ℕ → List Errno
errors_within zero history b = []
errors_within (suc levels) history b =
    option_map_or
    (λ m. errors_by (errors_within levels history) history b m.before m.entry.outcome)
    (start_moment history b)
    []

-- the errors that a bio met, in piece order
abbrev pub errors_of : List Moment → ℕ → List Errno
errors_of history b = errors_within (length history) history b

-- the first of them, which is the error of the bio
abbrev pub first_of : List Errno → Option Errno
first_of [] = None
first_of (e ∷ es) = Some e
