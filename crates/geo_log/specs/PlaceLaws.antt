-- What the places of a log keep while it grows.
use Rattle.std.specs.Prelude.{◌≡◌, ℕ, ◌<◌, List, ◌∷◌, ◌++◌, length, Some}
use Rattle.geo_model.specs.declared.step.DeviceResult.TheVariants as devices
use Rattle.geo_model.specs.declared.step.Entry.{Entry}
use Rattle.geo_model.specs.declared.step.Step.TheVariants as steps
use Rattle.geo_model.specs.Bios.{result_of_device}
use Rattle.geo_bio.specs.declared.bio.Held.TheVariants as held
use Rattle.geo_bio.specs.Up.{resolved}
use Rattle.geo_log.specs.Places.{bytes_delivered, delivered_at}

-- a place has the same bytes when more entries came
abbrev pub BytesStay : Type 0
BytesStay = (log more : List Entry) (place : ℕ) → place < length log
    → delivered_at (log ++ more) place ≡ delivered_at log place

-- the place of an entry is the number of those before it
abbrev pub DeliveredHasPlace : Type 0
DeliveredHasPlace = (log more : List Entry) (e : Entry) → delivered_at (log ++ e ∷ more) (length log)
    ≡ bytes_delivered e

-- the result of a bio that names the place of a Deliver's bytes is what the model gives it
abbrev pub DeliveredIsResult : Type 0
DeliveredIsResult =
    (log more : List Entry) (e : Entry) (bio : ℕ) (bytes : List ℕ) → e.step ≡ steps.Deliver bio (devices.Bytes bytes)
    → resolved (delivered_at (log ++ e ∷ more)) (Some (held.AtPlace (length log)))
    ≡ result_of_device (devices.Bytes bytes)
