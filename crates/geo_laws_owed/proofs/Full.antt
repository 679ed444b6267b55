-- Where a log is full it is nearly as long as it can be, and it doesn't get shorter with what is owed.
use Rattle.std.specs.Prelude.{◌≡◌, ◌+◌, ◌-◌, ◌<◌, ◌≤◌, Bool, true, false, [], ◌∷◌, length, Ok, Err, IsTrue, if◌then◌else◌}
use Rattle.std.proofs.Common.{refl, arith}
use Rattle.std.proofs.lemmas.Bool.{ltb-true}
use Rattle.geo_base.specs.declared.limits.TheConstants.{MAX_LOG_ENTRIES}
use Rattle.geo_model.specs.declared.step.Outcome.{Outcome}
use Rattle.geo_model.specs.declared.step.Step.{Step}
use Rattle.geo_model.specs.declared.step.Step.TheVariants as steps
use Rattle.geo_model.specs.World.{World}
use Rattle.geo_model.specs.Step.{Answer, step}
use Rattle.geo_model.specs.Log.{after_entry, is_full, is_full_after, owed}
use Rattle.geo_model.specs.History.{next_command}
use Rattle.geo_laws_steps.proofs.Stepped.{steps_stay_firm}
use Rattle.geo_laws_owed.specs.FullLaws.{FullLogsAreLong, OwedNeverFalls}
use Rattle.geo_laws_owed.specs.OwedLaws.{begins_to_owe, is_answered_ok, is_open, pays}
use Rattle.geo_laws_owed.proofs.OwedSteps.{owed_changes}
use Rattle.geo_laws_owed.proofs.Room.{never_shorter}

-- a step begins to owe at most one place
pub begins_one : (w : World) (s : Step) (outcome : Outcome) → begins_to_owe w s outcome ≤ 1
begins_one w (steps.Go actor) outcome = by (is_answered_ok is_open (next_command w actor) outcome)
  where
    by : (c : Bool) → (if c then 1 else 0) ≤ 1
    by true = omega arith
    by false = omega arith
begins_one w s outcome = omega arith

-- where a step has no place, the log with what is owed is at its limit but for one place
pub full_logs_are_long : FullLogsAreLong
unfolding is_full
full_logs_are_long log w seat s firm full = by (step w seat s) refl full
  where
    by : (a : Answer) → step w seat s ≡ a → IsTrue (is_full_after (length log) a)
        → MAX_LOG_ENTRIES - 1 ≤ length log + owed w
    by (Ok made) is above =
        let changes : owed made.0 + pays w s made.1 ≡ owed w + begins_to_owe w s made.1 =
        owed_changes w seat s made.0 made.1 firm is in
        let one : begins_to_owe w s made.1 ≤ 1 = begins_one w s made.1 in
        let over : MAX_LOG_ENTRIES < length log + 1 + owed made.0 =
        ltb-true MAX_LOG_ENTRIES (length log + 1 + owed made.0) above in
        omega (arith, changes, one, over)
    by (Err found) is above = absurd (let bad : ⊥ = cc in bad)

-- so the length with what is owed doesn't fall
pub owed_never_falls : OwedNeverFalls
owed_never_falls w [] later firm = let rest = never_shorter w later firm in omega (arith, rest)
owed_never_falls w (e ∷ earlier) later firm =
    let rest = owed_never_falls (after_entry w e) earlier later (steps_stay_firm w e.seat e.step firm) in
    omega (arith, rest)
