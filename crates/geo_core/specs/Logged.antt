-- The mesh as a state with a log that threads share: its start, and what a step is answered.
use Rattle.std.specs.Prelude.{◌≡◌, ℕ, ◌==◌, Bool, true, false, ◌&&◌, List, Option, Some, Result, Ok, Err, IsTrue}
use Rattle.geo_model.specs.declared.command.LineCommand.{LineCommand}
use Rattle.geo_model.specs.declared.step.DeviceResult.{DeviceResult}
use Rattle.geo_model.specs.declared.step.Entry.{Entry}
use Rattle.geo_model.specs.declared.step.Found.{Found}
use Rattle.geo_model.specs.declared.step.Outcome.{Outcome}
use Rattle.geo_model.specs.declared.step.Outcome.TheVariants as outcomes
use Rattle.geo_model.specs.declared.step.Reply.TheVariants as replies
use Rattle.geo_model.specs.declared.step.Step.{Step}
use Rattle.geo_model.specs.declared.step.Step.TheVariants as steps
use Rattle.geo_model.specs.World.{World}
use Rattle.geo_model.specs.Step.{Answer, is_enabled, step}
use Rattle.geo_model.specs.Log.{is_full}
use Rattle.geo_model.specs.History.{next_command}
use Rattle.geo_model.specs.Passes.{GoodPass, Pass}
use Rattle.geo_moves.specs.Owed.{is_close}
use Rattle.geo_lock.specs.Pass.{IsGoodIn, PassView}
use Rattle.geo_core.specs.declared.logged.MeshStart.{MeshStart}
use Rattle.geo_core.specs.declared.refusal.ApplyRefusal.{ApplyRefusal}
use Rattle.geo_core.specs.declared.refusal.ApplyRefusal.TheVariants as refusals
use Rattle.geo_core.specs.Mesh.{MeshView, world_of}

-- what a mesh began with, and the mesh that began so and has a log
abbrev pub mesh_start : MeshView → MeshStart
mesh_start m = record { plan = m.plan; facts = m.facts }

abbrev pub mesh_of : MeshStart → List Entry → MeshView
mesh_of s log = record { plan = s.plan; facts = s.facts; log = log }

-- what is answered, by the model's answer and whether the log is full
abbrev pub answer_by : Answer → Bool → Result Outcome ApplyRefusal
answer_by (Err found) full = Err (refusals.NotEnabled found)
answer_by (Ok made) true = Err refusals.LogFull
answer_by (Ok made) false = Ok made.1

-- what a step of a seat is answered, want of memory aside
unfoldable pub answer_of : MeshView → ℕ → Step → Result Outcome ApplyRefusal
answer_of m seat s = answer_by (step (world_of m) seat s) (is_full m.log (world_of m) seat s)

-- whether a refusal is one for want of memory
abbrev pub is_want : ApplyRefusal → Bool
is_want (refusals.NotEnabled found) = false
is_want refusals.LogFull = false
is_want refusals.NoMemory = true

-- whether a line's close is answered ok
abbrev pub is_ok_to : ℕ → Answer → Bool
is_ok_to line (Ok (after, outcomes.Replied to replies.Ok)) = to == line
is_ok_to line _ = false

abbrev pub is_ok_close : Option LineCommand → Answer → Bool
is_ok_close (Some c) a = is_close c.command && is_ok_to c.line a
is_ok_close _ a = false

-- whether a step takes no memory: an enabled Deliver, and a Go of a close that is answered ok
unfoldable pub is_sure : World → ℕ → Step → Bool
is_sure w seat (steps.Deliver bio got) = is_enabled w seat (steps.Deliver bio got)
is_sure w seat (steps.Go actor) = is_ok_close (next_command w actor) (step w seat (steps.Go actor))
is_sure w seat s = false

-- what an answer tells of the step
pub record AnswersTell : Type 0 where
  pub made : (m : MeshView) (seat : ℕ) (s : Step) (o : Outcome) → Ok o ≡ answer_of m seat s
      → (after : World) × (step (world_of m) seat s ≡ Ok (after, o)) × (is_full m.log (world_of m) seat s ≡ false)
  pub not_enabled : (m : MeshView) (seat : ℕ) (s : Step) (found : Found)
      → Err (refusals.NotEnabled found) ≡ answer_of m seat s → step (world_of m) seat s ≡ Err found
  pub full : (m : MeshView) (seat : ℕ) (s : Step)
      → Err refusals.LogFull ≡ answer_of m seat s → IsTrue (is_full m.log (world_of m) seat s)
  pub not_for_memory : (m : MeshView) (seat : ℕ) (s : Step) → Err refusals.NoMemory ≡ answer_of m seat s → ⊥

-- and what is answered to a step that is enabled and has its place
abbrev pub MadeIsAnswered : Type 0
MadeIsAnswered =
    (m : MeshView) (seat : ℕ) (s : Step) (after : World) (o : Outcome) → step (world_of m) seat s ≡ Ok (after, o)
    → is_full m.log (world_of m) seat s ≡ false → answer_of m seat s ≡ Ok o

-- an enabled Deliver takes no memory
abbrev pub DeliversAreSure : Type 0
DeliversAreSure =
    (w : World) (seat bio : ℕ) (got : DeviceResult) → IsTrue (is_enabled w seat (steps.Deliver bio got))
    → is_sure w seat (steps.Deliver bio got) ≡ true

-- a pass, as the model sees it
abbrev pub pass_of : PassView MeshStart Entry → Pass
pass_of p = record { number = p.number; seen = p.seen; own = p.own }

-- a pass that is good in a log, as the lock tells it, is a good pass of the model
abbrev pub PassesAreGood : Type 0
PassesAreGood =
    (p : PassView MeshStart Entry) (log : List Entry) → IsGoodIn (λ e. e.seat) p log → GoodPass (pass_of p) log
