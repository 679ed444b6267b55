-- How a job ends: the cause of the answer of its last turn, and rows of idle turns.
use Rattle.std.specs.Prelude.{◌≡◌, ◌≢◌, ℕ, ◌+◌, [], Option, Some, None, Contains, IsSomeAnd}
use Rattle.std.proofs.Common.{append-nil, refl, subst, sym, ◌∙◌}
use Rattle.geo_disk.specs.declared.drive.Drive.{Drive}
use Rattle.geo_model.specs.declared.step.Step.{Step}
use Rattle.geo_model.specs.declared.step.Step.TheVariants as steps
use Rattle.geo_model.specs.World.{World}
use Rattle.geo_model.specs.FixedOrder.{FoundFull, HasFinished, WasIdle}
use Rattle.geo_model.specs.Passes.{entries_of_seat}
use Rattle.geo_serve.specs.Drives.{DriveView}
use Rattle.geo_jobs.specs.declared.turn.Turn.{Turn}
use Rattle.geo_jobs.specs.declared.turn.Turn.TheVariants as turns
use Rattle.geo_jobs.specs.Passes.{Goes, MeshPass}
use Rattle.geo_jobs.specs.declared.disk_job.DiskJob.{DiskJob}
use Rattle.geo_jobs.specs.Turns.{take_in}
use Rattle.geo_jobs.specs.Turns as disks
use Rattle.geo_jobs.specs.Drives.{disks_of}
use Rattle.geo_jobs.specs.Served.{IsOfDisks}
use Rattle.geo_jobs.proofs.Doing.{numbers_stay}
use Rattle.geo_jobs.specs.declared.client.ClientJob.{ClientJob}
use Rattle.geo_jobs.specs.declared.down.DownJob.{DownJob}
use Rattle.geo_jobs.specs.declared.events.EventJob.{EventJob}
use Rattle.geo_jobs.specs.declared.job.Job.{Job}
use Rattle.geo_jobs.specs.declared.job.Role.{Role}
use Rattle.geo_jobs.specs.declared.job.Role.TheVariants as roles
use Rattle.geo_jobs.specs.declared.up.UpJob.{UpJob}
use Rattle.geo_jobs.specs.Causes.{Cause, HadNoPlace, WasInVain}
use Rattle.geo_jobs.specs.Clients.{DidClient, IsWaiting}
use Rattle.geo_jobs.specs.Downs.{DidDown, start_in}
use Rattle.geo_jobs.specs.Events.{AreInVain, DidEvents, IsInVain}
use Rattle.geo_jobs.specs.Jobs.{DidRole, DidTurn}
use Rattle.geo_jobs.specs.Kinds.{IsOfClient, IsOfDown, IsOfEvents, IsOfUp, event_steps}
use Rattle.geo_jobs.specs.Runs.{EndedBy, JobRan, RestedFor, RoleRan}
use Rattle.geo_jobs.specs.Ups.{DidUp, up_in}
use Rattle.geo_jobs.proofs.Rows.{row_more, row_none}
use Rattle.geo_jobs.proofs.Running.{of_events}

-- The cause of each answer

-- the step of a ticket had no place
no_place : {X : Type 0} (kind : Step → Type 0) (opened : World) (q : MeshPass) (step_of : X → Step) (o : Option X)
    → ((x : X) → kind (step_of x)) → IsSomeAnd o (λ x. FoundFull opened q.seen q.number (step_of x))
    → HadNoPlace kind opened q
no_place kind opened q step_of None is full = absurd full
no_place kind opened q step_of (Some x) is full =
    record { tried = step_of x; is_of = is x; full = full }

client_cause : (D : Type 0) (opened : World) (p q : MeshPass) (a b : ClientJob) (r : Turn)
    → DidClient opened p q a b r → r ≢ turns.Worked → Cause {D = D} opened q (roles.Client a) r
client_cause D opened p q a b turns.Worked did other = absurd (other refl)
client_cause D opened p q a b turns.Idle did other = did.1
client_cause D opened p q a b turns.Finished did other = did.1
client_cause D opened p q a b turns.LogFull did other =
    record { tried = steps.Go a.actor; is_of = refl; full = did.1 }
client_cause D opened p q a b turns.NoMemory did other = tt

-- a try of the event worker, by what its pass has seen at the end
in_vain : (opened : World) (p q : MeshPass) (st : Step) → Goes p q [] → IsInVain opened p q st
    → WasInVain opened q st
in_vain opened p q st goes vain = record {
  seen = vain.seen;
  within = vain.before_last;
  own =
      subst (λ n. entries_of_seat n vain.seen ≡ p.own) (sym goes.same.number) vain.own
      ∙ sym (goes.own ∙ append-nil p.own);
  was_idle = subst (λ n. WasIdle opened vain.seen n st) (sym goes.same.number) vain.was_idle;
}

each_in_vain : (opened : World) (p q : MeshPass) → Goes p q [] → AreInVain opened p q event_steps → (st : Step)
    → IsOfEvents st → WasInVain opened q st
each_in_vain opened p q goes vain steps.Judge is = in_vain opened p q steps.Judge goes vain.0
each_in_vain opened p q goes vain steps.Event is = in_vain opened p q steps.Event goes vain.1.0
each_in_vain opened p q goes vain steps.Reap is = in_vain opened p q steps.Reap goes vain.1.1.0
each_in_vain opened p q goes vain steps.Wash is = in_vain opened p q steps.Wash goes vain.1.1.1.0
each_in_vain opened p q goes vain st is = absurd is

events_cause : (D : Type 0) (opened : World) (p q : MeshPass) (a b : EventJob) (r : Turn)
    → DidEvents opened p q a b r → r ≢ turns.Worked → Cause {D = D} opened q (roles.Events a) r
events_cause D opened p q a b turns.Worked did other = absurd (other refl)
events_cause D opened p q a b turns.Idle did other = each_in_vain opened p q did.0.goes did.1
events_cause D opened p q a b turns.Finished did other = did
events_cause D opened p q a b turns.LogFull did other =
    let reached = did.1.1 in
    record { tried = did.1.0; is_of = of_events reached.earlier reached.later did.1.0 reached.order; full = did.1.2 }
events_cause D opened p q a b turns.NoMemory did other = tt

down_cause : (D : Type 0) (opened : World) (p q : MeshPass) (a b : DownJob) (r : Turn)
    → DidDown opened p q a b r → r ≢ turns.Worked → Cause {D = D} opened q (roles.Down a) r
down_cause D opened p q a b turns.Worked did other = absurd (other refl)
down_cause D opened p q a b turns.Idle did other = tt
down_cause D opened p q a b turns.Finished did other = did
down_cause D opened p q a b turns.LogFull did other =
    no_place IsOfDown opened q steps.Start (start_in did.0.step) (λ x. tt) did.2
down_cause D opened p q a b turns.NoMemory did other = tt

up_cause : (D : Type 0) (opened : World) (p q : MeshPass) (a b : UpJob) (r : Turn) → DidUp opened p q a b r
    → r ≢ turns.Worked → Cause {D = D} opened q (roles.Up a) r
up_cause D opened p q a b turns.Worked did other = absurd (other refl)
up_cause D opened p q a b turns.Idle did other = tt
up_cause D opened p q a b turns.Finished did other = did
up_cause D opened p q a b turns.LogFull did other =
    no_place IsOfUp opened q steps.Up (up_in did.0.step) (λ x. tt) did.2
up_cause D opened p q a b turns.NoMemory did other = tt

disk_cause : {D : Type 0} (opened : World) (seen : Drive D → DriveView) (p q : MeshPass) (a b : DiskJob D) (r : Turn)
    → disks.DidDiskTurn opened seen p q a b r → r ≢ turns.Worked → Cause opened q (roles.Disk a) r
disk_cause opened seen p q a b turns.Worked did other = absurd (other refl)
disk_cause opened seen p q a b turns.Idle did other = tt
disk_cause opened seen p q a b turns.Finished did other = did
disk_cause opened seen p q a b turns.LogFull did other =
    by (take_in did.0.step) did.2
  where
    by : (o : Option (ℕ × ℕ))
        → IsSomeAnd o
        (λ (x : ℕ × ℕ). Contains (disks_of a.drives.items) x.0 × FoundFull opened q.seen q.number (steps.Take x.0 x.1))
        → HadNoPlace (IsOfDisks (disks_of a.drives.items)) opened q
    by None full = absurd full
    by (Some x) full = record { tried = steps.Take x.0 x.1; is_of = full.0; full = full.1 }
disk_cause opened seen p q a b turns.NoMemory did other = tt

role_cause : {D : Type 0} (opened : World) (seen : Drive D → DriveView) (p q : MeshPass) (a b : Role D) (r : Turn)
    → DidRole opened seen p q a b r → r ≢ turns.Worked → Cause opened q a r
role_cause {D} opened seen p q (roles.Client a) (roles.Client b) r did other = client_cause D opened p q a b r did other
role_cause {D} opened seen p q (roles.Events a) (roles.Events b) r did other = events_cause D opened p q a b r did other
role_cause {D} opened seen p q (roles.Down a) (roles.Down b) r did other = down_cause D opened p q a b r did other
role_cause {D} opened seen p q (roles.Up a) (roles.Up b) r did other = up_cause D opened p q a b r did other
role_cause {D} opened seen p q (roles.Disk a) (roles.Disk b) r did other = disk_cause opened seen p q a b r did other
role_cause opened seen p q a b r did other = absurd did

-- it is the same for the role with which the job began
same_client : (D : Type 0) (opened : World) (q : MeshPass) (a b : ClientJob) (r : Turn) → b.actor ≡ a.actor
    → Cause {D = D} opened q (roles.Client b) r → Cause {D = D} opened q (roles.Client a) r
same_client D opened q a b turns.Worked same cause = cause
same_client D opened q a b turns.Idle same cause = subst (λ n. IsWaiting opened q n) same cause
same_client D opened q a b turns.Finished same cause = subst (λ n. HasFinished opened q.seen n) same cause
same_client D opened q a b turns.LogFull same cause = subst (λ n. HadNoPlace (IsOfClient n) opened q) same cause
same_client D opened q a b turns.NoMemory same cause = cause

same_disks : {D : Type 0} (opened : World) (q : MeshPass) (a b : DiskJob D) (r : Turn)
    → disks_of b.drives.items ≡ disks_of a.drives.items → Cause opened q (roles.Disk b) r
    → Cause opened q (roles.Disk a) r
same_disks opened q a b turns.Worked same cause = cause
same_disks opened q a b turns.Idle same cause = cause
same_disks opened q a b turns.Finished same cause = cause
same_disks opened q a b turns.LogFull same cause =
    subst (λ ns. HadNoPlace (IsOfDisks ns) opened q) same cause
same_disks opened q a b turns.NoMemory same cause = cause

same_cause : {D : Type 0} (opened : World) (seen : Drive D → DriveView) (p m q : MeshPass) (a b : Role D) (r : Turn)
    → RoleRan seen p m a b → Cause opened q b r → Cause opened q a r
same_cause {D} opened seen p m q (roles.Client a) (roles.Client b) r ran cause =
    same_client D opened q a b r ran.kept.0 cause
same_cause opened seen p m q (roles.Events a) (roles.Events b) r ran cause = cause
same_cause opened seen p m q (roles.Down a) (roles.Down b) r ran cause = cause
same_cause opened seen p m q (roles.Up a) (roles.Up b) r ran cause = cause
same_cause opened seen p m q (roles.Disk a) (roles.Disk b) r ran cause =
    same_disks opened q a b r
    (numbers_stay seen ran.added a.drives.items b.drives.items ran.kept.0.served) cause
same_cause opened seen p m q a b r ran cause = absurd ran.kept

-- a job that went on, and whose last turn was this one
job_cause : {D : Type 0} (opened : World) (seen : Drive D → DriveView) (a b c : Job D) (r : Turn)
    → JobRan seen a b → DidTurn opened seen b c r → r ≢ turns.Worked → Cause opened c.pass a.role r
unfolding DidTurn
job_cause opened seen a b c r ran did other =
    same_cause opened seen a.pass b.pass c.pass a.role b.role r ran
    (role_cause opened seen b.pass c.pass b.role c.role r did other)

pub job_ends : {D : Type 0} (opened : World) (seen : Drive D → DriveView) (a b c : Job D) (r : Turn)
    → JobRan seen a b → DidTurn opened seen b c r → r ≢ turns.Worked → EndedBy opened seen a c r
job_ends opened seen a b c r ran did other =
    record { from = b; ran = ran; did = did; cause = job_cause opened seen a b c r ran did other }

-- Rows of idle turns

pub rest_none : {D : Type 0} (opened : World) (seen : Drive D → DriveView) (a b : Job D) → JobRan seen a b
    → RestedFor opened seen 0 a b
rest_none opened seen a b ran = record { from = b; ran = ran; idle = row_none (DidTurn opened seen) b }

pub rest_more : {D : Type 0} (opened : World) (seen : Drive D → DriveView) (n : ℕ) (a m b : Job D)
    → RestedFor opened seen n a m → DidTurn opened seen m b turns.Idle → RestedFor opened seen (n + 1) a b
rest_more opened seen n a m b rested did =
    record {
      from = rested.from;
      ran = rested.ran;
      idle = row_more (DidTurn opened seen) n rested.from m b rested.idle did;
    }
