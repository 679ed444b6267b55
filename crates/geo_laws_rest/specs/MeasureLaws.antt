-- Each step lowers the measure, but a wash of a consumer while a taste is under way or to come.
use Rattle.std.specs.Prelude.{ℕ, IsTrue}
use Rattle.geo_model.specs.declared.step.DeviceResult.{DeviceResult}
use Rattle.geo_model.specs.declared.step.Step.TheVariants as steps
use Rattle.geo_model.specs.World.{World}
use Rattle.geo_model.specs.Step.{is_enabled}
use Rattle.geo_model.specs.Fitting.{Firm}
use Rattle.geo_model.specs.Laws.{Lowers}

-- a Take together with any Deliver that fits
abbrev pub TakesLower : Type 0
TakesLower =
    (w : World) (seat disk b : ℕ) → Firm w → IsTrue (is_enabled w seat (steps.Take disk b))
    → Lowers w seat (steps.Take disk b)

-- a Deliver
abbrev pub DeliversLower : Type 0
DeliversLower =
    (w : World) (seat b : ℕ) (got : DeviceResult) → Firm w → IsTrue (is_enabled w seat (steps.Deliver b got))
    → Lowers w seat (steps.Deliver b got)

-- a Start: the bio goes back with an error, is sent to its disk, or is split
abbrev pub StartsLower : Type 0
StartsLower =
    (w : World) (seat b : ℕ) → Firm w → IsTrue (is_enabled w seat (steps.Start b)) → Lowers w seat (steps.Start b)

-- an Up: a request is complete, the taste has its sector, or a parent has one child fewer to wait for
abbrev pub UpsLower : Type 0
UpsLower = (w : World) (seat b : ℕ) → Firm w → IsTrue (is_enabled w seat (steps.Up b)) → Lowers w seat (steps.Up b)

-- a Go, of any world
abbrev pub GoesLower : Type 0
GoesLower = (w : World) (seat actor : ℕ) → IsTrue (is_enabled w seat (steps.Go actor)) → Lowers w seat
    (steps.Go actor)

-- a Reap, of any world
abbrev pub ReapsLower : Type 0
ReapsLower = (w : World) (seat : ℕ) → IsTrue (is_enabled w seat steps.Reap) → Lowers w seat steps.Reap
