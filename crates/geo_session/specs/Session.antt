-- A live mesh: the world that it is, and the history that led there.
use Rattle.std.specs.Prelude.{◌≡◌, ℕ, ◌+◌, ◌%◌, ◌^◌, List, [], Result, Ok, Err, IsOk, length, map}
use Rattle.std.specs.List.{range_with_len}
use Rattle.geo_model.specs.declared.command.LineCommand.{LineCommand}
use Rattle.geo_model.specs.declared.step.Entry.{Entry}
use Rattle.geo_model.specs.declared.step.Outcome.{Outcome}
use Rattle.geo_model.specs.declared.step.Step.{Step}
use Rattle.geo_model.specs.declared.step.Step.TheVariants as steps
use Rattle.geo_model.specs.World.{World, Plan}
use Rattle.geo_model.specs.History.{KeepsHistory}
use Rattle.geo_model.specs.Opening.{opening}
use Rattle.geo_model.specs.Plans.{MayBegin, FactsFit}
use Rattle.geo_model.specs.Step.{step}
use Rattle.geo_model.specs.Log.{Legal, replay}
use Rattle.geo_session.specs.declared.refusal.SessionRefusal.{SessionRefusal}
use Rattle.geo_session.specs.declared.refusal.SessionRefusal.TheVariants as refusals
use Rattle.geo_session.specs.Generation.{is_of_graph, next_generation}
use Rattle.geo_session.specs.Growth.{with_command}

-- what is seen of a live mesh: its world, and how many steps it has made, counted up to 2^64 and then from 0 again; so
-- are those that are of the graph
pub record SessionView : Type 0 where
  pub world : World
  pub steps : ℕ
  pub generation : ℕ

-- the plan without its commands
abbrev pub without_commands : Plan → Plan
without_commands plan = record plan { commands = [] }

-- so many actors, none of whom has a command left: each is made when it is given
abbrev pub none_left : ℕ → List (List LineCommand)
none_left actors = map (λ actor. []) (range_with_len 0 actors)

-- a history of a mesh: a plan with which it can have begun, on disks that fit it, and a legal log that leads to its
-- world, with an entry for each step
pub record HistoryOf (v : SessionView) : Type 0 where
  pub plan : Plan
  pub facts : List (ℕ × ℕ)
  pub begins : MayBegin plan
  pub fit : FactsFit plan facts
  pub log : List Entry
  pub legal : Legal (opening plan facts) log
  pub leads : replay (opening plan facts) log ≡ v.world
  pub counts : length log % 2 ^ 64 ≡ v.steps

-- there is a history of it, and by it the mesh keeps all that a history does
abbrev pub HasHistory : SessionView → Type 0
HasHistory v = ∥ ((h : HistoryOf v) × KeepsHistory (opening h.plan h.facts) h.log) ∥₁

-- a step was made: it is the definitions' step, and one more is counted; and one more of the graph exactly if it is of
-- the graph
pub record Made (before : World) (old new : SessionView) (seat : ℕ) (s : Step) (outcome : Outcome) : Type 0 where
  pub does : step before seat s ≡ Ok (new.world, outcome)
  pub counted : new.steps ≡ (old.steps + 1) % 2 ^ 64
  pub generation : new.generation ≡ next_generation old.generation (is_of_graph before s outcome)

-- a step was refused, and the mesh is as before: for what was found, exactly where the step isn't enabled; or for want
-- of memory, where it is
abbrev pub IsRefusedFor : SessionRefusal → World → SessionView → SessionView → ℕ → Step → Type 0
IsRefusedFor (refusals.NotEnabled found) before old new seat s = (step before seat s ≡ Err found) × (new ≡ old)
IsRefusedFor refusals.NoMemory before old new seat s = IsOk (step before seat s) × (new ≡ old)

-- what a step is answered from a world, and the mesh that it leaves
abbrev pub AnswersFrom : World → Result Outcome SessionRefusal → SessionView → SessionView → ℕ → Step → Type 0
AnswersFrom before (Ok outcome) old new seat s = Made before old new seat s outcome
AnswersFrom before (Err refusal) old new seat s = IsRefusedFor refusal before old new seat s

-- a step of a seat
abbrev pub Answers : Result Outcome SessionRefusal → SessionView → SessionView → ℕ → Step → Type 0
Answers result old new seat s = AnswersFrom old.world result old new seat s

-- a command is the Go of its actor where the actor has it left and nothing else; after a refusal it is gone
abbrev pub Commands : Result Outcome SessionRefusal → SessionView → SessionView → LineCommand → Type 0
Commands result old new c = AnswersFrom (with_command c old.world) result old new 0 (steps.Go c.actor)
