-- The step that is due, as it is told to C.
use Rattle.std.specs.Prelude.{◌≡◌, ℕ, ℤ, Option, Some, None}
use Rattle.geo_model.specs.declared.step.Step.{Step}
use Rattle.geo_model.specs.declared.step.Step.TheVariants as steps
use Rattle.geo_model.specs.Order.{pick}
use Rattle.geo_tags.specs.Tags.{TaggedView}
use Rattle.geo_exports.specs.declared.codes.TheConstants.{CLOSED, OK}
use Rattle.geo_exports.specs.declared.steps.TheConstants.{DELIVER, EVENT, GO, JUDGE, NO_STEP, REAP, START, TAKE, UP, WASH}
use Rattle.geo_exports.specs.declared.steps.TzbStep.{TzbStep}

-- a step of a kind, with the place of a disk or an actor, and a bio
abbrev pub step_with : ℕ → ℕ → ℕ → TzbStep
step_with kind place bio = record { kind = kind; place = place; bio = bio }

abbrev pub step_told : Step → TzbStep
step_told (steps.Go actor) = step_with GO actor 0
step_told steps.Event = step_with EVENT 0 0
step_told steps.Judge = step_with JUDGE 0 0
step_told steps.Reap = step_with REAP 0 0
step_told steps.Wash = step_with WASH 0 0
step_told (steps.Start bio) = step_with START 0 bio
step_told (steps.Take disk bio) = step_with TAKE disk bio
step_told (steps.Deliver bio got) = step_with DELIVER 0 bio
step_told (steps.Up bio) = step_with UP 0 bio

-- where one is due
abbrev pub due_told : Option Step → TzbStep
due_told None = step_with NO_STEP 0 0
due_told (Some step) = step_told step

-- the step that a turn of what a handle holds makes next
abbrev pub TellsDue : ℤ → TzbStep → Option TaggedView → Type 0
TellsDue code step None = (code ≡ CLOSED) × (step ≡ step_with NO_STEP 0 0)
TellsDue code step (Some mesh) = (code ≡ OK) × (step ≡ due_told (pick (mesh.session).world))
