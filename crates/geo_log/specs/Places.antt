-- The bytes that a log keeps, by the place of the Deliver that brought them.
use Rattle.std.specs.Prelude.{ℕ, List, Option, Some, None, slice_get}
use Rattle.std.specs.Option.{option_and_then}
use Rattle.geo_model.specs.declared.step.DeviceResult.{DeviceResult}
use Rattle.geo_model.specs.declared.step.DeviceResult.TheVariants as devices
use Rattle.geo_model.specs.declared.step.Entry.{Entry}
use Rattle.geo_model.specs.declared.step.Step.{Step}
use Rattle.geo_model.specs.declared.step.Step.TheVariants as steps

-- the bytes of a disk's answer, if it has some
abbrev pub bytes_of_answer : DeviceResult → Option (List ℕ)
bytes_of_answer (devices.Bytes bytes) = Some bytes
bytes_of_answer _ = None

-- the bytes that a step delivers, if it does
abbrev pub bytes_of_step : Step → Option (List ℕ)
bytes_of_step (steps.Deliver bio got) = bytes_of_answer got
bytes_of_step _ = None

-- the bytes that an entry delivered
abbrev pub bytes_delivered : Entry → Option (List ℕ)
bytes_delivered e = bytes_of_step e.step

-- the bytes that the entry of a place delivered
abbrev pub delivered_at : List Entry → ℕ → Option (List ℕ)
delivered_at log place = option_and_then bytes_delivered (slice_get log place)
