-- A job: its passes, its drives, its kind of steps, and a turn of it.
use Rattle.std.specs.Prelude.{◌≡◌, ◌==◌, ℕ, Bool, true, false, List, length, Option, Some, None, ⊤}
use Rattle.geo_disk.specs.declared.drive.Drive.{Drive}
use Rattle.geo_model.specs.declared.step.Step.{Step}
use Rattle.geo_model.specs.World.{World}
use Rattle.geo_serve.specs.Drives.{DriveView}
use Rattle.geo_lock.specs.Yard.{IsPassOf, YardView}
use Rattle.geo_jobs.specs.declared.lanes.Lanes.{Lanes}
use Rattle.geo_jobs.specs.declared.turn.Turn.{Turn}
use Rattle.geo_jobs.specs.Passes.{MeshPass, opened_by}
use Rattle.geo_jobs.specs.Ends.{PublisherView}
use Rattle.geo_jobs.specs.DriveList.{DriveListView}
use Rattle.geo_jobs.specs.Drives.{HasDrives, disks_of}
use Rattle.geo_jobs.specs.Served.{IsOfDisks}
use Rattle.geo_jobs.specs.Turns.{IsDiskJob}
use Rattle.geo_jobs.specs.Turns as disks
use Rattle.geo_jobs.specs.declared.job.Job.{Job}
use Rattle.geo_jobs.specs.declared.job.Role.{Role}
use Rattle.geo_jobs.specs.declared.job.Role.TheVariants as roles
use Rattle.geo_jobs.specs.Clients.{DidClient, IsClientJob, IsWaiting}
use Rattle.geo_jobs.specs.Downs.{DidDown, IsDownJob}
use Rattle.geo_jobs.specs.Events.{AreInVain, DidEvents, IsEventJob}
use Rattle.geo_jobs.specs.Kinds.{IsOfClient, IsOfDown, IsOfEvents, IsOfUp, event_steps}
use Rattle.geo_jobs.specs.Ups.{DidUp, IsUpJob}

-- the lane passes of a role are of the lanes, and have put few tickets for each own entry of the job; and a client that
-- shows can show what the job has seen
abbrev pub IsRoleOf : {D : Type 0} → Lanes → MeshPass → Role D → Type 0
IsRoleOf lanes p (roles.Client j) = IsClientJob lanes p j
IsRoleOf lanes p (roles.Events j) = IsEventJob lanes p.own j
IsRoleOf lanes p (roles.Down j) = IsDownJob lanes p.own j
IsRoleOf lanes p (roles.Up j) = IsUpJob lanes p.own j
IsRoleOf lanes p (roles.Disk j) = IsDiskJob lanes p.own j

-- a turn of the role would be in vain at all that the pass has seen: the client waits, or each of the event worker's four
-- steps was tried in vain there
abbrev pub IsQuiet : {D : Type 0} → World → MeshPass → Role D → Type 0
IsQuiet opened p (roles.Client j) = IsWaiting opened p j.actor
IsQuiet opened p (roles.Events j) = AreInVain opened p p event_steps
IsQuiet opened p _ = ⊥

-- a job of the yard and the lanes, which is quiet only where a turn of its role would be in vain
pub record IsJobOf {D : Type 0} (y : YardView _) (lanes : Lanes) (j : Job D) : Type 0 where
  pub pass : IsPassOf y j.pass
  pub role : IsRoleOf lanes j.pass j.role
  pub quiet : j.quiet ≡ true → IsQuiet (opened_by y.start) j.pass j.role

-- a disk worker's drives have different numbers, and the sizes that the facts give for their disks
abbrev pub HasItsDrives : {D : Type 0} → List (ℕ × ℕ) → (Drive D → DriveView) → Role D → Type 0
HasItsDrives facts seen (roles.Disk j) = HasDrives facts seen j.drives.items
HasItsDrives facts seen _ = ⊤

-- a disk worker's drives
abbrev pub drives_of : {D : Type 0} → Role D → Option (DriveListView D)
drives_of (roles.Disk j) = Some j.drives
drives_of _ = None

-- what a client shows by, if it shows
abbrev pub publisher_of : {D : Type 0} → Role D → Option PublisherView
publisher_of (roles.Client j) = j.publisher
publisher_of _ = None

-- the steps of a role
abbrev pub IsOfRole : {D : Type 0} → Role D → Step → Type 0
IsOfRole (roles.Client j) step = IsOfClient j.actor step
IsOfRole (roles.Events j) step = IsOfEvents step
IsOfRole (roles.Down j) step = IsOfDown step
IsOfRole (roles.Up j) step = IsOfUp step
IsOfRole (roles.Disk j) step = IsOfDisks (disks_of j.drives.items) step

-- what a turn of a role did, by its answer
abbrev pub DidRole : {D : Type 0} → World → (Drive D → DriveView) → MeshPass → MeshPass → Role D → Role D → Turn
    → Type 0
DidRole opened seen p q (roles.Client a) (roles.Client b) r = DidClient opened p q a b r
DidRole opened seen p q (roles.Events a) (roles.Events b) r = DidEvents opened p q a b r
DidRole opened seen p q (roles.Down a) (roles.Down b) r = DidDown opened p q a b r
DidRole opened seen p q (roles.Up a) (roles.Up b) r = DidUp opened p q a b r
DidRole opened seen p q (roles.Disk a) (roles.Disk b) r = disks.DidDiskTurn opened seen p q a b r
DidRole opened seen p q _ _ r = ⊥

-- what a turn of a job did, by its answer
unfoldable pub DidTurn : {D : Type 0} → World → (Drive D → DriveView) → Job D → Job D → Turn → Type 0
DidTurn opened seen a b r = DidRole opened seen a.pass b.pass a.role b.role r

-- is the next turn in vain until the log grows, behind an idle turn before which the pass had seen so much: a client's is,
-- and the event worker's if its pass saw no more
abbrev pub is_role_in_vain : {D : Type 0} → Role D → Bool → Bool
is_role_in_vain (roles.Client j) saw_no_more = true
is_role_in_vain (roles.Events j) saw_no_more = saw_no_more
is_role_in_vain _ saw_no_more = false

abbrev pub is_in_vain : {D : Type 0} → Job D → ℕ → Bool
is_in_vain j seen = is_role_in_vain j.role (length j.pass.seen == seen)
