-- What a job did over several turns: none, and one turn more.
use Rattle.std.specs.Prelude.{◌≡◌, ℕ, List, [], ◌∷◌, ◌++◌, All, Option, Some, None, IsSomeAnd}
use Rattle.std.proofs.Common.{ap, inl, inr, refl, subst, sym, ◌∙◌}
use Rattle.std.proofs.lemmas.List.Elements.{All-append, All-cons, All-nil}
use Rattle.geo_disk.specs.declared.drive.Drive.{Drive}
use Rattle.geo_model.specs.declared.step.Entry.{Entry}
use Rattle.geo_model.specs.declared.step.Outcome.{Outcome}
use Rattle.geo_model.specs.declared.step.Step.{Step}
use Rattle.geo_model.specs.declared.step.Step.TheVariants as steps
use Rattle.geo_model.specs.World.{World}
use Rattle.geo_serve.specs.Drives.{DriveView}
use Rattle.geo_lock.specs.Yard.{IsPassOf, YardView}
use Rattle.geo_jobs.specs.declared.turn.Turn.{Turn}
use Rattle.geo_jobs.specs.declared.turn.Turn.TheVariants as turns
use Rattle.geo_jobs.specs.Passes.{Goes, IsGoodPass, MeshPass}
use Rattle.geo_jobs.proofs.Joins.{goes_join, goes_self}
use Rattle.geo_jobs.specs.declared.disk_job.DiskJob.{DiskJob}
use Rattle.geo_jobs.specs.Turns.{ServesBio, take_in, with_ticket}
use Rattle.geo_jobs.specs.Turns as disks
use Rattle.geo_jobs.specs.Ran.{DisksRan}
use Rattle.geo_jobs.proofs.DiskJoining.{ran_none, ran_on}
use Rattle.geo_jobs.specs.declared.client.ClientJob.{ClientJob}
use Rattle.geo_jobs.specs.declared.down.DownJob.{DownJob}
use Rattle.geo_jobs.specs.declared.events.EventJob.{EventJob}
use Rattle.geo_jobs.specs.declared.job.Job.{Job}
use Rattle.geo_jobs.specs.declared.job.Role.{Role}
use Rattle.geo_jobs.specs.declared.job.Role.TheVariants as roles
use Rattle.geo_jobs.specs.declared.up.UpJob.{UpJob}
use Rattle.geo_jobs.specs.Clients.{DidClient, view_shown}
use Rattle.geo_jobs.specs.Downs.{DidDown, Starts, down_with, start_in}
use Rattle.geo_jobs.specs.Events.{DidEvents}
use Rattle.geo_jobs.specs.Jobs.{DidRole, DidTurn, HasItsDrives, IsOfRole}
use Rattle.geo_jobs.specs.Kinds.{IsOfClient, IsOfDown, IsOfEvents, IsOfUp, event_steps}
use Rattle.geo_jobs.specs.LanePasses.{MadeOneStep, Rests}
use Rattle.geo_jobs.specs.Runs.{IsKept, JobRan, RoleRan}
use Rattle.geo_jobs.specs.Ups.{DidUp, GivesUp, up_in, with_ticket_taken}
use Rattle.geo_jobs.proofs.Showing.{view_stays}

-- Passes

-- a pass went on by steps of one kind
record PassRan (kind : Step → Type 0) (p q : MeshPass) : Type 0 where
  added : List Entry
  goes : Goes p q added
  kinds : All (λ (e : Entry). kind e.step) added

pass_rested : (kind : Step → Type 0) (p q : MeshPass) → Goes p q [] → PassRan kind p q
pass_rested kind p q goes =
    record { added = []; goes = goes; kinds = All-nil (λ (e : Entry). kind e.step) }

pass_made : (kind : Step → Type 0) (p q : MeshPass) (st : Step) (o : Outcome) → MadeOneStep p q st o → kind st
    → PassRan kind p q
pass_made kind p q st o adds is = record {
  added = record { seat = p.number; step = st; outcome = o } ∷ [];
  goes = adds;
  kinds =
      All-cons (λ (e : Entry). kind e.step) (record { seat = p.number; step = st; outcome = o }) [] is
      (All-nil (λ (e : Entry). kind e.step));
}

pass_join : (kind : Step → Type 0) (p m q : MeshPass) → PassRan kind p m → PassRan kind m q → PassRan kind p q
pass_join kind p m q one two = record {
  added = one.added ++ two.added;
  goes = goes_join p m q one.added two.added one.goes two.goes;
  kinds = All-append (λ (e : Entry). kind e.step) one.added two.added one.kinds two.kinds;
}

-- One turn of each role

-- a client made a step of its actor or rested, and keeps its actor and the view that it shows
abbrev ClientRan : MeshPass → MeshPass → ClientJob → ClientJob → Type 0
ClientRan p q a b = PassRan (IsOfClient a.actor) p q × (b.actor ≡ a.actor) × (view_shown b ≡ view_shown a)

client_rested : (p q : MeshPass) (a b : ClientJob) → Rests p q a b → ClientRan p q a b
client_rested p q a b rests = (
  pass_rested (IsOfClient a.actor) p q rests.goes,
  ap (λ (j : ClientJob). j.actor) rests.same,
  ap (λ (j : ClientJob). view_shown j) rests.same,
)

client_ran : (opened : World) (p q : MeshPass) (a b : ClientJob) (r : Turn) → DidClient opened p q a b r
    → ClientRan p q a b
client_ran opened p q a b turns.Worked did = (
  pass_made (IsOfClient a.actor) p q (steps.Go a.actor) did.outcome did.adds refl,
  did.noted.actor,
  view_stays did.outcome q.seen a.publisher b.publisher did.shown,
)
client_ran opened p q a b turns.Idle did = client_rested p q a b did.0
client_ran opened p q a b turns.Finished did = client_rested p q a b did.0
client_ran opened p q a b turns.LogFull did = client_rested p q a b did.0
client_ran opened p q a b turns.NoMemory did = client_rested p q a b did

-- the event worker's four steps are of its kind
pub of_events : (earlier later : List Step) (st : Step) → event_steps ≡ earlier ++ st ∷ later → IsOfEvents st
of_events [] later st is = let same : steps.Judge ≡ st = cc in subst IsOfEvents same tt
of_events (a ∷ []) later st is = let same : steps.Event ≡ st = cc in subst IsOfEvents same tt
of_events (a ∷ b ∷ []) later st is = let same : steps.Reap ≡ st = cc in subst IsOfEvents same tt
of_events (a ∷ b ∷ c ∷ []) later st is = let same : steps.Wash ≡ st = cc in subst IsOfEvents same tt
of_events (a ∷ b ∷ c ∷ d ∷ []) later st is = absurd (let bad : ⊥ = cc in bad)
of_events (a ∷ b ∷ c ∷ d ∷ e ∷ rest) later st is = absurd (let bad : ⊥ = cc in bad)

events_ran : (opened : World) (p q : MeshPass) (a b : EventJob) (r : Turn) → DidEvents opened p q a b r
    → PassRan IsOfEvents p q
events_ran opened p q a b turns.Worked did =
    pass_made IsOfEvents p q did.step did.outcome did.adds
    (of_events did.reached.earlier did.reached.later did.step did.reached.order)
events_ran opened p q a b turns.Idle did = pass_rested IsOfEvents p q did.0.goes
events_ran opened p q a b turns.Finished did = absurd did
events_ran opened p q a b turns.LogFull did = pass_rested IsOfEvents p q did.0.goes
events_ran opened p q a b turns.NoMemory did = pass_rested IsOfEvents p q did.goes

down_ran : (opened : World) (p q : MeshPass) (a b : DownJob) (r : Turn) → DidDown opened p q a b r
    → PassRan IsOfDown p q
down_ran opened p q a b turns.Worked did = by (start_in did.0.step) did.1
  where
    by : (o : Option ℕ) → IsSomeAnd o (λ bio. Starts bio p q (down_with a did.0) b) → PassRan IsOfDown p q
    by None starts = absurd starts
    by (Some bio) starts = pass_made IsOfDown p q (steps.Start bio) starts.outcome starts.adds tt
down_ran opened p q a b turns.Idle (inl did) = pass_rested IsOfDown p q did.0.goes
down_ran opened p q a b turns.Idle (inr did) = pass_rested IsOfDown p q did.1.goes
down_ran opened p q a b turns.Finished did = absurd did
down_ran opened p q a b turns.LogFull did = pass_rested IsOfDown p q did.1.goes
down_ran opened p q a b turns.NoMemory did = pass_rested IsOfDown p q did.1.goes

up_ran : (opened : World) (p q : MeshPass) (a b : UpJob) (r : Turn) → DidUp opened p q a b r → PassRan IsOfUp p q
up_ran opened p q a b turns.Worked did = by (up_in did.0.step) did.1
  where
    by : (o : Option ℕ) → IsSomeAnd o (λ bio. GivesUp bio p q (with_ticket_taken a did.0) b) → PassRan IsOfUp p q
    by None gives = absurd gives
    by (Some bio) gives = pass_made IsOfUp p q (steps.Up bio) gives.outcome gives.adds tt
up_ran opened p q a b turns.Idle (inl did) = pass_rested IsOfUp p q did.0.goes
up_ran opened p q a b turns.Idle (inr did) = pass_rested IsOfUp p q did.1.goes
up_ran opened p q a b turns.Finished did = absurd did
up_ran opened p q a b turns.LogFull did = pass_rested IsOfUp p q did.1.goes
up_ran opened p q a b turns.NoMemory did = pass_rested IsOfUp p q did.1.goes

-- a disk worker keeps its number
worker_stays : {D : Type 0} (opened : World) (seen : Drive D → DriveView) (p q : MeshPass) (a b : DiskJob D) (r : Turn)
    → disks.DidDiskTurn opened seen p q a b r → b.worker ≡ a.worker
worker_stays {D} opened seen p q a b turns.Worked did = by (take_in did.0.step) did.1
  where
    by : (o : Option (ℕ × ℕ)) → IsSomeAnd o (λ (x : ℕ × ℕ). ServesBio seen x.0 x.1 p q (with_ticket a did.0) b)
        → b.worker ≡ a.worker
    by None works = absurd works
    by (Some x) works = ap (λ (j : DiskJob D). j.worker) works.same
worker_stays {D} opened seen p q a b turns.Idle (inl did) = ap (λ (j : DiskJob D). j.worker) did.0.same
worker_stays {D} opened seen p q a b turns.Idle (inr did) = ap (λ (j : DiskJob D). j.worker) did.1.same
worker_stays {D} opened seen p q a b turns.Finished did = absurd did
worker_stays {D} opened seen p q a b turns.LogFull did = ap (λ (j : DiskJob D). j.worker) did.1.same
worker_stays {D} opened seen p q a b turns.NoMemory did = ap (λ (j : DiskJob D). j.worker) did.1.same

-- Roles

-- by what its pass and its drives did
of_pass : {D : Type 0} (seen : Drive D → DriveView) (p q : MeshPass) (a b : Role D) (ran : PassRan (IsOfRole a) p q)
    → IsKept seen ran.added a b → RoleRan seen p q a b
of_pass seen p q a b ran kept =
    record { added = ran.added; goes = ran.goes; kinds = ran.kinds; kept = kept }

of_disks : {D : Type 0} (seen : Drive D → DriveView) (p q : MeshPass) (a b : DiskJob D)
    → DisksRan seen p q a.drives.items b.drives.items → b.worker ≡ a.worker
    → RoleRan seen p q (roles.Disk a) (roles.Disk b)
of_disks seen p q a b ran same =
    record { added = ran.added; goes = ran.goes; kinds = ran.kinds; kept = (ran.served, same) }

-- and these by what the role did
pass_of : {D : Type 0} (seen : Drive D → DriveView) (p q : MeshPass) (a b : Role D) → RoleRan seen p q a b
    → PassRan (IsOfRole a) p q
pass_of seen p q a b ran = record { added = ran.added; goes = ran.goes; kinds = ran.kinds }

disks_of_role : {D : Type 0} (seen : Drive D → DriveView) (p q : MeshPass) (a b : DiskJob D)
    → RoleRan seen p q (roles.Disk a) (roles.Disk b) → DisksRan seen p q a.drives.items b.drives.items
disks_of_role seen p q a b ran =
    record { added = ran.added; goes = ran.goes; kinds = ran.kinds; served = ran.kept.0 }

role_none : {D : Type 0} (seen : Drive D → DriveView) (p : MeshPass) (a : Role D) → RoleRan seen p p a a
role_none seen p (roles.Client a) =
    of_pass seen p p (roles.Client a) (roles.Client a) (pass_rested (IsOfClient a.actor) p p (goes_self p)) (refl, refl)
role_none seen p (roles.Events a) =
    of_pass seen p p (roles.Events a) (roles.Events a) (pass_rested IsOfEvents p p (goes_self p)) tt
role_none seen p (roles.Down a) =
    of_pass seen p p (roles.Down a) (roles.Down a) (pass_rested IsOfDown p p (goes_self p)) tt
role_none seen p (roles.Up a) =
    of_pass seen p p (roles.Up a) (roles.Up a) (pass_rested IsOfUp p p (goes_self p)) tt
role_none seen p (roles.Disk a) = of_disks seen p p a a (ran_none seen p a.drives.items) refl

-- a role that went on, and then made one turn; the turn is of the same role
module _ {D : Type 0} (y : YardView _) (opened : World) (facts : List (ℕ × ℕ)) (seen : Drive D → DriveView)
    (p m q : MeshPass) (r : Turn) (of : IsPassOf y p) (good : IsGoodPass q) where
  client_more : (a b c : ClientJob) → RoleRan seen p m (roles.Client a) (roles.Client b)
      → DidClient opened m q b c r → RoleRan seen p q (roles.Client a) (roles.Client c)
  client_more a b c ran did =
      let turn = client_ran opened m q b c r did in
      of_pass seen p q (roles.Client a) (roles.Client c)
      (pass_join (IsOfClient a.actor) p m q (pass_of seen p m (roles.Client a) (roles.Client b) ran)
      (subst (λ n. PassRan (IsOfClient n) m q) ran.kept.0 turn.0))
      (turn.1 ∙ ran.kept.0, turn.2 ∙ ran.kept.1)

  -- where the role keeps nothing
  pass_more : (a c : Role D) → PassRan (IsOfRole a) p m → PassRan (IsOfRole a) m q
      → ((added : List Entry) → IsKept seen added a c) → RoleRan seen p q a c
  pass_more a c ran turn kept =
      let both = pass_join (IsOfRole a) p m q ran turn in of_pass seen p q a c both (kept both.added)

  role_more : (a b c : Role D) → HasItsDrives facts seen b → RoleRan seen p m a b → DidRole opened seen m q b c r
      → RoleRan seen p q a c
  role_more (roles.Client a) (roles.Client b) (roles.Client c) has ran did = client_more a b c ran did
  role_more (roles.Client a) (roles.Client b) c has ran did = absurd did
  role_more (roles.Events a) (roles.Events b) (roles.Events c) has ran did =
      pass_more (roles.Events a) (roles.Events c) (pass_of seen p m (roles.Events a) (roles.Events b) ran)
      (events_ran opened m q b c r did) (λ added. tt)
  role_more (roles.Events a) (roles.Events b) c has ran did = absurd did
  role_more (roles.Down a) (roles.Down b) (roles.Down c) has ran did =
      pass_more (roles.Down a) (roles.Down c) (pass_of seen p m (roles.Down a) (roles.Down b) ran)
      (down_ran opened m q b c r did) (λ added. tt)
  role_more (roles.Down a) (roles.Down b) c has ran did = absurd did
  role_more (roles.Up a) (roles.Up b) (roles.Up c) has ran did =
      pass_more (roles.Up a) (roles.Up c) (pass_of seen p m (roles.Up a) (roles.Up b) ran)
      (up_ran opened m q b c r did) (λ added. tt)
  role_more (roles.Up a) (roles.Up b) c has ran did = absurd did
  role_more (roles.Disk a) (roles.Disk b) (roles.Disk c) has ran did =
      of_disks seen p q a c
      (ran_on y opened facts seen p m q a.drives.items b c r of good has (disks_of_role seen p m a b ran) did)
      (worker_stays opened seen m q b c r did ∙ ran.kept.1)
  role_more (roles.Disk a) (roles.Disk b) c has ran did = absurd did
  role_more a b c has ran did = absurd ran.kept

-- Jobs

-- a turn of a job is one of its role
pub did_role : {D : Type 0} (opened : World) (seen : Drive D → DriveView) (a : Job D) (was : Role D) (q : MeshPass)
    (b : Role D) (r : Turn) → a.role ≡ was → DidRole opened seen a.pass q was b r
    → DidTurn opened seen a (record { pass = q; role = b; quiet = a.quiet }) r
unfolding DidTurn
did_role opened seen a was q b r is did = subst (λ x. DidRole opened seen a.pass q x b r) (sym is) did

-- a job that made no turn, and one that went on and then made one turn more
pub job_none : {D : Type 0} (seen : Drive D → DriveView) (a : Job D) → JobRan seen a a
job_none seen a = role_none seen a.pass a.role

pub job_more : {D : Type 0} (y : YardView _) (opened : World) (facts : List (ℕ × ℕ)) (seen : Drive D → DriveView)
    (a b c : Job D) (r : Turn) → IsPassOf y a.pass → IsGoodPass c.pass → HasItsDrives facts seen b.role
    → JobRan seen a b → DidTurn opened seen b c r → JobRan seen a c
unfolding DidTurn
job_more y opened facts seen a b c r of good has ran did =
    role_more y opened facts seen a.pass b.pass c.pass r of good a.role b.role c.role has ran did
