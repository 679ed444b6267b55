-- A mesh: what it began with, and its log.
use Rattle.std.specs.Prelude.{◌≡◌, ℕ, List, [], ◌∷◌, ◌++◌, false, Result, Ok, Err, IsOk, IsTrue}
use Rattle.geo_model.specs.declared.step.Entry.{Entry}
use Rattle.geo_model.specs.declared.step.Outcome.{Outcome}
use Rattle.geo_model.specs.declared.step.Step.{Step}
use Rattle.geo_model.specs.declared.step.Step.TheVariants as steps
use Rattle.geo_model.specs.World.{World, Plan}
use Rattle.geo_model.specs.Opening.{opening}
use Rattle.geo_model.specs.Step.{step}
use Rattle.geo_model.specs.Log.{replay, is_full, IsLawful}
use Rattle.geo_model.specs.History.{KeepsHistory}
use Rattle.geo_model.specs.Laws.{ClosesOk}
use Rattle.geo_model.specs.Plans.{IsPlan, FactsFit}
-- handed on to the crates above
pub use Rattle.geo_moves.specs.Spots.{bytes_read, bytes_read_by}
use Rattle.geo_core.specs.declared.refusal.ApplyRefusal.{ApplyRefusal}
use Rattle.geo_core.specs.declared.refusal.ApplyRefusal.TheVariants as refusals

-- the plan and the sizes of its disks with which a mesh began, and its log
pub record MeshView : Type 0 where
  pub plan : Plan
  pub facts : List (ℕ × ℕ)
  pub log : List Entry

-- the world with which it began
abbrev pub opened : MeshView → World
opened m = opening m.plan m.facts

-- the world of a mesh: that to which its log leads
abbrev pub world_of : MeshView → World
world_of m = replay (opened m) m.log

-- the log is one that the mesh can have, by which it keeps all that a history does
pub record IsHistory (m : MeshView) : Type 0 where
  pub plan : IsPlan m.plan
  pub facts : FactsFit m.plan m.facts
  pub lawful : IsLawful (opened m) m.log
  pub keeps : KeepsHistory (opened m) m.log

-- the entry of a step
abbrev pub entry_of : ℕ → Step → Outcome → Entry
entry_of seat s outcome = record { seat = seat; step = s; outcome = outcome }

-- the mesh with one more entry
abbrev pub with_entry : MeshView → Entry → MeshView
with_entry m e = record m { log = m.log ++ e ∷ [] }

-- a step was made: it was enabled and had its place in the log, which has its entry
pub record Made (old new : MeshView) (seat : ℕ) (s : Step) (outcome : Outcome) : Type 0 where
  pub does : step (world_of old) seat s ≡ Ok (world_of new, outcome)
  pub had_place : is_full old.log (world_of old) seat s ≡ false
  pub logged : new ≡ with_entry old (entry_of seat s outcome)

-- a step was refused, and all is as before: for what was found, exactly where it isn't enabled; for a full log, exactly
-- where it is enabled and there is no place for it; or for want of memory, where it is enabled and there is a place
abbrev pub Refuses : ApplyRefusal → MeshView → MeshView → ℕ → Step → Type 0
Refuses (refusals.NotEnabled found) old new seat s = (step (world_of old) seat s ≡ Err found) × (new ≡ old)
Refuses refusals.LogFull old new seat s = IsTrue (is_full old.log (world_of old) seat s) × (new ≡ old)
Refuses refusals.NoMemory old new seat s =
    IsOk (step (world_of old) seat s) × (is_full old.log (world_of old) seat s ≡ false) × (new ≡ old)

-- what is answered to a step, and the mesh that it leaves
abbrev pub Applies : Result Outcome ApplyRefusal → MeshView → MeshView → ℕ → Step → Type 0
Applies (Ok outcome) old new seat s = Made old new seat s outcome
Applies (Err refusal) old new seat s = Refuses refusal old new seat s

-- the same where the outcome is told by the entry alone
abbrev pub Advances : Result (Unit {0}) ApplyRefusal → MeshView → MeshView → ℕ → Step → Type 0
Advances (Ok done) old new seat s = (outcome : Outcome) × Made old new seat s outcome
Advances (Err refusal) old new seat s = Refuses refusal old new seat s

-- the step is an enabled Deliver, or a Go of a close that is answered ok: it is never refused
abbrev pub IsSure : World → ℕ → Step → Type 0
IsSure w seat (steps.Deliver bio got) = IsOk (step w seat (steps.Deliver bio got))
IsSure w seat (steps.Go actor) = ClosesOk w seat actor
IsSure w seat st = ⊥
