-- How histories go on: with what is answered ok each history of a mesh before is one of the mesh after.
use Rattle.std.specs.Prelude.{◌≡◌, ℕ, [], ◌∷◌, ◌++◌, Ok}
use Rattle.geo_model.specs.declared.command.LineCommand.{LineCommand}
use Rattle.geo_model.specs.declared.step.Entry.{Entry}
use Rattle.geo_model.specs.declared.step.Outcome.{Outcome}
use Rattle.geo_model.specs.declared.step.Step.{Step}
use Rattle.geo_model.specs.declared.step.Step.TheVariants as steps
use Rattle.geo_model.specs.World.{Plan}
use Rattle.geo_model.specs.Plans.{IsCommand}
use Rattle.geo_session.specs.Growth.{plan_with}
use Rattle.geo_session.specs.Session.{SessionView, HistoryOf, Answers, Commands}

-- the entry of a step
abbrev pub entry_of_step : ℕ → Step → Outcome → Entry
entry_of_step seat s outcome = record { seat = seat; step = s; outcome = outcome }

-- there is a history of the mesh with the plan, on the same disks, whose log has this entry more
pub record GoesOn {old : SessionView} (h : HistoryOf old) (plan : Plan) (e : Entry) (new : SessionView) : Type 0 where
  pub next : HistoryOf new
  pub plan_is : next.plan ≡ plan
  pub facts_are : next.facts ≡ h.facts
  pub log_is : next.log ≡ h.log ++ e ∷ []

-- a step goes on with the same plan, a command with the plan that has it at its end
pub record HistoriesGoOn : Type 0 where
  pub step : (old new : SessionView) (seat : ℕ) (s : Step) (outcome : Outcome)
      → Answers (Ok outcome) old new seat s → (h : HistoryOf old) → GoesOn h h.plan (entry_of_step seat s outcome) new
  pub command : (old new : SessionView) (c : LineCommand) (outcome : Outcome) → IsCommand c.command
      → Commands (Ok outcome) old new c → (h : HistoryOf old)
      → GoesOn h (plan_with h.plan c) (entry_of_step 0 (steps.Go c.actor) outcome) new
