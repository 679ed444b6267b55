-- A step begins to owe one place of the log at most, so that a log owes no more places than it has entries.
use Rattle.std.proofs.Common.{◌≡◌, ℕ, ◌+◌, ◌≤◌, List, [], ◌∷◌, length, Ok, Err, refl, arith}
use Rattle.geo_model.specs.declared.step.Entry.{Entry}
use Rattle.geo_model.specs.declared.step.Step.{Step}
use Rattle.geo_model.specs.World.{World}
use Rattle.geo_model.specs.Step.{Answer, step}
use Rattle.geo_model.specs.Log.{replay, world_after, after_entry, owed}
use Rattle.geo_model.specs.Opening.{opening}
use Rattle.geo_model.specs.Fitting.{Firm}
use Rattle.geo_model.proofs.OpeningLemmas.{opening_owes}
use Rattle.geo_laws_owed.proofs.Full.{begins_one}
use Rattle.geo_laws_steps.proofs.Stepped.{steps_stay_firm}
use Rattle.geo_laws_steps.proofs.Logs.{opened_firm}
use Rattle.geo_laws_owed.proofs.OwedSteps.{owed_changes}
use Rattle.geo_laws_traces.specs.TraceLaws.{OwesOneMore, OwesFew}
pub use Rattle.geo_laws_steps.proofs.Logs.{firm_after}

-- whatever it answers
owes_by : (w : World) (seat : ℕ) (s : Step) → Firm w → (a : Answer) → step w seat s ≡ a
    → owed (world_after w a) ≤ owed w + 1
owes_by w seat s firm (Ok made) is =
    let changes = owed_changes w seat s made.0 made.1 firm is in
    omega (arith, changes, begins_one w s made.1)
owes_by w seat s firm (Err found) is = omega arith

pub owes_one_more : OwesOneMore
owes_one_more w seat s firm = owes_by w seat s firm (step w seat s) refl

-- along a log
owes_along : (w : World) (log : List Entry) → Firm w → owed (replay w log) ≤ owed w + length log
owes_along w [] firm = omega arith
owes_along w (e ∷ log) firm =
    let one = owes_one_more w e.seat e.step firm in
    let rest = owes_along (after_entry w e) log (steps_stay_firm w e.seat e.step firm) in
    omega (arith, one, rest)

pub owes_few : OwesFew
owes_few plan facts is fit log legal =
    let along = owes_along (opening plan facts) log (opened_firm plan facts is fit) in
    let none = opening_owes plan facts in
    omega (arith, along, none)
