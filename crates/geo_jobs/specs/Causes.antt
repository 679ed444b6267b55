-- Why a job ended with its answer, at what its pass had seen then.
use Rattle.std.specs.Prelude.{◌≡◌, List, ⊤}
use mathlib.Core.List.{IsPrefix}
use Rattle.geo_model.specs.declared.step.Entry.{Entry}
use Rattle.geo_model.specs.declared.step.Step.{Step}
use Rattle.geo_model.specs.World.{World}
use Rattle.geo_model.specs.FixedOrder.{FoundFull, HasFinished, WasIdle}
use Rattle.geo_model.specs.Passes.{entries_of_seat}
use Rattle.geo_jobs.specs.declared.turn.Turn.{Turn}
use Rattle.geo_jobs.specs.declared.turn.Turn.TheVariants as turns
use Rattle.geo_jobs.specs.Passes.{MeshPass}
use Rattle.geo_jobs.specs.declared.job.Role.{Role}
use Rattle.geo_jobs.specs.declared.job.Role.TheVariants as roles
use Rattle.geo_jobs.specs.Clients.{IsWaiting}
use Rattle.geo_jobs.specs.Jobs.{IsOfRole}
use Rattle.geo_jobs.specs.Kinds.{IsOfEvents}

-- a step was tried in vain at a beginning of what the pass has seen that has all its own entries
pub record WasInVain (opened : World) (q : MeshPass) (step : Step) : Type 0 where
  pub seen : List Entry
  pub within : IsPrefix seen q.seen
  pub own : entries_of_seat q.number seen ≡ q.own
  pub was_idle : WasIdle opened seen q.number step

-- a client is idle at a sync or a settle that waits, and the event worker where each of its steps was in vain
abbrev pub IdleCause : {D : Type 0} → World → MeshPass → Role D → Type 0
IdleCause opened q (roles.Client j) = IsWaiting opened q j.actor
IdleCause opened q (roles.Events j) = (step : Step) → IsOfEvents step → WasInVain opened q step
IdleCause opened q _ = ⊤

-- a client finishes where its actor has no command left, and no other job does
abbrev pub FinishCause : {D : Type 0} → World → MeshPass → Role D → Type 0
FinishCause opened q (roles.Client j) = HasFinished opened q.seen j.actor
FinishCause opened q _ = ⊥

-- a step of a kind had no place
pub record HadNoPlace (kind : Step → Type 0) (opened : World) (q : MeshPass) : Type 0 where
  pub tried : Step
  pub is_of : kind tried
  pub full : FoundFull opened q.seen q.number tried

-- why a job of this role ended with its answer
abbrev pub Cause : {D : Type 0} → World → MeshPass → Role D → Turn → Type 0
Cause opened q role turns.Worked = ⊥
Cause opened q role turns.Idle = IdleCause opened q role
Cause opened q role turns.Finished = FinishCause opened q role
Cause opened q role turns.LogFull = HadNoPlace (IsOfRole role) opened q
Cause opened q role turns.NoMemory = ⊤
