-- A turn of the event worker, which tries four steps in their order until one is enabled.
use Rattle.std.specs.Prelude.{◌≡◌, List, [], ◌∷◌, ◌++◌, ⊤}
use mathlib.Core.List.{IsPrefix}
use Rattle.geo_model.specs.declared.step.Entry.{Entry}
use Rattle.geo_model.specs.declared.step.Outcome.{Outcome}
use Rattle.geo_model.specs.declared.step.Step.{Step}
use Rattle.geo_model.specs.World.{World}
use Rattle.geo_model.specs.FixedOrder.{FoundFull, WasIdle}
use Rattle.geo_model.specs.Passes.{entries_of_seat}
use Rattle.geo_jobs.specs.declared.lanes.Lanes.{Lanes}
use Rattle.geo_jobs.specs.declared.tried.Tried.{Tried}
use Rattle.geo_jobs.specs.declared.tried.Tried.TheVariants as tries
use Rattle.geo_jobs.specs.declared.turn.Turn.{Turn}
use Rattle.geo_jobs.specs.declared.turn.Turn.TheVariants as turns
use Rattle.geo_jobs.specs.Passes.{Goes, MeshPass}
use Rattle.geo_jobs.specs.Putting.{PutsAll}
use Rattle.geo_jobs.specs.declared.events.EventJob.{EventJob}
use Rattle.geo_jobs.specs.Hints.{judge_hints}
use Rattle.geo_jobs.specs.Kinds.{event_steps}
use Rattle.geo_jobs.specs.LanePasses.{IsPassTo, MadeOneStep, Rests}

-- it puts into the down lane
abbrev pub IsEventJob : Lanes → List Entry → EventJob → Type 0
IsEventJob lanes entries j = IsPassTo lanes.down entries j.down

-- a step wasn't enabled at something that had been seen, which lies between what was seen first and last and has all own
-- entries that stand before this turn
pub record IsInVain (opened : World) (p q : MeshPass) (step : Step) : Type 0 where
  pub seen : List Entry
  pub behind_first : IsPrefix p.seen seen
  pub before_last : IsPrefix seen q.seen
  pub own : entries_of_seat p.number seen ≡ p.own
  pub was_idle : WasIdle opened seen p.number step

abbrev pub AreInVain : World → MeshPass → MeshPass → List Step → Type 0
AreInVain opened p q [] = ⊤
AreInVain opened p q (step ∷ rest) = IsInVain opened p q step × AreInVain opened p q rest

-- these steps were tried in vain, and nothing else was done
pub record TriesInVain (opened : World) (p q : MeshPass) (tried : List Step) : Type 0 where
  pub goes : Goes p q []
  pub each : AreInVain opened p q tried

-- the step is one of the four, and those before it were tried in vain
pub record IsReached (opened : World) (p q : MeshPass) (step : Step) : Type 0 where
  pub earlier : List Step
  pub later : List Step
  pub order : event_steps ≡ earlier ++ step ∷ later
  pub vain : AreInVain opened p q earlier

-- what was done at a step that was tried last, by the answer
abbrev pub DidLast : World → MeshPass → MeshPass → Step → Tried → Type 0
DidLast opened p q step (tries.Made outcome) = MadeOneStep p q step outcome
DidLast opened p q step (tries.NotEnabled found) = ⊥
DidLast opened p q step tries.LogFull = Goes p q [] × FoundFull opened q.seen q.number step
DidLast opened p q step tries.NoMemory = Goes p q []

-- the tries ended at one of the steps, with this answer
pub record EndsAt (opened : World) (p q : MeshPass) (t : Tried) : Type 0 where
  pub step : Step
  pub reached : IsReached opened p q step
  pub did : DidLast opened p q step t

-- the first enabled of the four steps was made, and the tickets that its outcome names were put
pub record EventWorked (opened : World) (p q : MeshPass) (a b : EventJob) : Type 0 where
  pub step : Step
  pub reached : IsReached opened p q step
  pub outcome : Outcome
  pub adds : MadeOneStep p q step outcome
  pub puts : PutsAll a.down (judge_hints outcome) b.down

-- what a turn did, by its answer
abbrev pub DidEvents : World → MeshPass → MeshPass → EventJob → EventJob → Turn → Type 0
DidEvents opened p q a b turns.Worked = EventWorked opened p q a b
DidEvents opened p q a b turns.Idle = Rests p q a b × AreInVain opened p q event_steps
DidEvents opened p q a b turns.Finished = ⊥
DidEvents opened p q a b turns.LogFull =
    Rests p q a b × ((step : Step) × IsReached opened p q step × FoundFull opened q.seen q.number step)
DidEvents opened p q a b turns.NoMemory = Rests p q a b
