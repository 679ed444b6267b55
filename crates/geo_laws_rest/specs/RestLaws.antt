-- No run lowers the measure for ever, so each order comes to rest that goes on until rest by steps that lower it.
use Rattle.std.specs.Prelude.{◌≡◌, ℕ, ◌+◌, List, [], ◌∷◌, ◌++◌, Some, IsTrue}
use Rattle.geo_model.specs.declared.step.DeviceResult.{DeviceResult}
use Rattle.geo_model.specs.declared.step.Entry.{Entry}
use Rattle.geo_model.specs.declared.step.Outcome.{Outcome}
use Rattle.geo_model.specs.declared.step.Step.{Step}
use Rattle.geo_model.specs.declared.step.Step.TheVariants as steps
use Rattle.geo_model.specs.World.{World, Plan}
use Rattle.geo_model.specs.Opening.{opening}
use Rattle.geo_model.specs.Plans.{MayBegin, FactsFit}
use Rattle.geo_model.specs.Step.{is_enabled}
use Rattle.geo_model.specs.Log.{Legal, replay}
use Rattle.geo_model.specs.Order.{pick, measure, IsLess}
use Rattle.geo_model.specs.Fitting.{Firm}
use Rattle.geo_model.specs.FixedOrder.{StepOrder}
use Rattle.geo_model.specs.Laws.{NoneBusy, OrderEnds, OrderGoesOn, world_by}

-- there is no endless row of worlds, each with a smaller measure than the one before
abbrev pub NoneFallsForEver : Type 0
NoneFallsForEver = (run : ℕ → World) → ((n : ℕ) → IsLess (measure (run (n + 1))) (measure (run n))) → ⊥

-- the world after a step of seat 0, where a Take is followed by the Deliver of an answer that fits
abbrev pub LeadsTo : World → Step → World → Type 0
LeadsTo w (steps.Take disk b) v =
    (got : DeviceResult) × IsTrue (is_enabled (world_by w 0 (steps.Take disk b)) 0 (steps.Deliver b got))
    × (v ≡ world_by (world_by w 0 (steps.Take disk b)) 0 (steps.Deliver b got))
LeadsTo w s v = v ≡ world_by w 0 s

-- one round of the fixed order: the step that is due, and what disks answer
pub record IsRound (w v : World) : Type 0 where
  pub step : Step
  pub due : pick w ≡ Some step
  pub leads : LeadsTo w step v

-- what a round adds to a log: the entry of its step by seat 0, and behind a Take that of the Deliver of an answer
abbrev pub AddsToLog : Step → List Entry → Type 0
AddsToLog (steps.Take disk b) added =
    (got : DeviceResult) × (taken : Outcome) × (given : Outcome)
    × (added
    ≡ record { seat = 0; step = steps.Take disk b; outcome = taken }
    ∷ record { seat = 0; step = steps.Deliver b got; outcome = given }
    ∷ [])
AddsToLog s added = (outcome : Outcome) × (added ≡ record { seat = 0; step = s; outcome = outcome } ∷ [])

-- one round of an order, from the one log to the other: the step that is due, and what disks answer
pub record IsRoundOf (order : StepOrder) (opened : World) (earlier later : List Entry) : Type 0 where
  pub step : Step
  pub due : order (replay opened earlier) earlier ≡ Some step
  pub added : List Entry
  pub adds : AddsToLog step added
  pub legal : Legal (replay opened earlier) added
  pub is : later ≡ earlier ++ added

-- no order goes on for ever that goes on until rest, by steps that lower the measure, and ends there: not from any
-- legal log that leaves no bio Busy, whatever disks answer
abbrev pub OrdersEnd : Type 0
OrdersEnd =
    (order : StepOrder) → OrderGoesOn order → OrderEnds order
    → (plan : Plan) (facts : List (ℕ × ℕ)) → MayBegin plan → FactsFit plan facts
    → (run : ℕ → List Entry)
    → Legal (opening plan facts) (run 0) → NoneBusy (replay (opening plan facts) (run 0))
    → ((n : ℕ) → IsRoundOf order (opening plan facts) (run n) (run (n + 1))) → ⊥

-- from a firm mesh without a Busy bio the fixed order doesn't go on for ever, whatever disks answer
abbrev pub FixedOrderEnds : Type 0
FixedOrderEnds =
    (run : ℕ → World) → Firm (run 0) → NoneBusy (run 0) → ((n : ℕ) → IsRound (run n) (run (n + 1))) → ⊥
