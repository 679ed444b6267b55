-- Jobs by their numbers, after they have ended.
use Rattle.std.specs.Prelude.{◌≡◌, ℕ, ◌+◌, ◌<◌, List, [], ◌∷◌, All, ⊤}
use mathlib.Core.List.{IsPrefix}
use Rattle.geo_disk.specs.declared.drive.Drive.{Drive}
use Rattle.geo_model.specs.declared.step.Entry.{Entry}
use Rattle.geo_model.specs.declared.step.Step.{Step}
use Rattle.geo_model.specs.World.{Plan, World}
use Rattle.geo_model.specs.FixedOrder.{FoundFull, HasFinished, IsOfItsJob, WasIdle}
use Rattle.geo_model.specs.Passes.{entries_of_seat}
use Rattle.geo_serve.specs.Drives.{DriveView}
use Rattle.geo_lock.specs.Yard.{IsPassOf}
use Rattle.geo_jobs.specs.declared.turn.Turn.{Turn}
use Rattle.geo_jobs.specs.declared.turn.Turn.TheVariants as turns
use Rattle.geo_jobs.specs.Passes.{MeshPass, opened_by}
use Rattle.geo_jobs.specs.Drives.{disks_of}
use Rattle.geo_jobs.specs.Served.{HasServed, IsOfDisks}
use Rattle.geo_jobs.specs.declared.job.Role.{Role}
use Rattle.geo_jobs.specs.declared.job.Role.TheVariants as roles
use Rattle.geo_jobs.specs.declared.run.Worker.{Worker}
use Rattle.geo_jobs.specs.Clients.{IsWaiting}
use Rattle.geo_jobs.specs.Kinds.{IsOfClient, IsOfDown, IsOfEvents, IsOfUp, event_steps}
use Rattle.geo_jobs.specs.Deal.{dealt}
use Rattle.geo_jobs.specs.Started.{MeshYard}

-- a job's own entries are of this kind
abbrev pub AreOfKind : (Step → Type 0) → MeshPass → Type 0
AreOfKind kind q = All (λ (e : Entry). kind e.step) q.own

-- the job with a number made steps of its kind, and the drives of a disk worker did what its entries say
abbrev pub DidAs : {D : Type 0} → (Drive D → DriveView) → ℕ → List (Drive D) → ℕ → MeshPass → Role D → Type 0
DidAs seen actors drives n q (roles.Client j) =
    (j.actor < actors) × (n ≡ j.actor + 1) × AreOfKind (IsOfClient j.actor) q
DidAs seen actors drives n q (roles.Events j) = (n ≡ actors + 1) × AreOfKind IsOfEvents q
DidAs seen actors drives n q (roles.Down j) = (n ≡ actors + 2) × AreOfKind IsOfDown q
DidAs seen actors drives n q (roles.Up j) = (n ≡ actors + 3) × AreOfKind IsOfUp q
DidAs seen actors drives n q (roles.Disk j) =
    (j.worker < 2) × (n ≡ actors + 4 + j.worker) × AreOfKind (IsOfDisks (disks_of (dealt j.worker drives))) q
    × HasServed seen q.own (dealt j.worker drives) j.drives.items

-- a job tried a step in vain at what it had seen then, in which all its own entries stand
pub record TriedLast (opened : World) (q : MeshPass) (step : Step) : Type 0 where
  pub seen : List Entry
  pub before_last : IsPrefix seen q.seen
  pub own : entries_of_seat q.number seen ≡ q.own
  pub was_idle : WasIdle opened seen q.number step

-- each of these steps
abbrev pub TriedEach : World → MeshPass → List Step → Type 0
TriedEach opened q [] = ⊤
TriedEach opened q (step ∷ rest) = TriedLast opened q step × TriedEach opened q rest

-- why a job was idle at last: a client waits, and the event worker tried each of its steps in vain
abbrev pub IdleAs : {D : Type 0} → World → MeshPass → Role D → Type 0
IdleAs opened q (roles.Client j) = IsWaiting opened q j.actor
IdleAs opened q (roles.Events j) = TriedEach opened q event_steps
IdleAs opened q _ = ⊤

-- only a client finishes: its actor has no command left
abbrev pub FinishedAs : {D : Type 0} → World → MeshPass → Role D → Type 0
FinishedAs opened q (roles.Client j) = HasFinished opened q.seen j.actor
FinishedAs opened q _ = ⊥

-- a job found the log full at a step of its kind
abbrev pub WasFull : World → Plan → MeshPass → Type 0
WasFull opened plan q = (tried : Step) × IsOfItsJob plan q.number tried × FoundFull opened q.seen q.number tried

-- why a job ended, by its answer
abbrev pub EndedAs : {D : Type 0} → World → Plan → MeshPass → Role D → Turn → Type 0
EndedAs opened plan q role turns.Worked = ⊥
EndedAs opened plan q role turns.Idle = IdleAs opened q role
EndedAs opened plan q role turns.Finished = FinishedAs opened q role
EndedAs opened plan q role turns.LogFull = WasFull opened plan q
EndedAs opened plan q role turns.NoMemory = ⊤

-- the worker with a number ended
pub record HasEnded {D : Type 0} (y : MeshYard) (seen : Drive D → DriveView) (actors : ℕ) (drives : List (Drive D))
    (n : ℕ) (w : Worker D) : Type 0 where
  pub of_yard : IsPassOf y w.job.pass
  pub number : w.job.pass.number ≡ n
  pub did : DidAs seen actors drives n w.job.pass w.job.role
  pub ended : EndedAs (opened_by y.start) y.start.plan w.job.pass w.job.role w.answer

-- the workers with the numbers from this one on
abbrev pub HaveEnded : {D : Type 0} → MeshYard → (Drive D → DriveView) → ℕ → List (Drive D) → ℕ → List (Worker D)
    → Type 0
HaveEnded y seen actors drives n [] = ⊤
HaveEnded y seen actors drives n (w ∷ ws) =
    HasEnded y seen actors drives n w × HaveEnded y seen actors drives (n + 1) ws
