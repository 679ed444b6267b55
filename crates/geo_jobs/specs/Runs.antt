-- What a job did over several turns, and how it ended.
use Rattle.std.specs.Prelude.{◌≡◌, ℕ, zero, suc, List, All, ⊤}
use Rattle.geo_disk.specs.declared.drive.Drive.{Drive}
use Rattle.geo_model.specs.declared.step.Entry.{Entry}
use Rattle.geo_model.specs.World.{World}
use Rattle.geo_serve.specs.Drives.{DriveView}
use Rattle.geo_jobs.specs.declared.turn.Turn.{Turn}
use Rattle.geo_jobs.specs.declared.turn.Turn.TheVariants as turns
use Rattle.geo_jobs.specs.Passes.{Goes, MeshPass}
use Rattle.geo_jobs.specs.Served.{HasServed}
use Rattle.geo_jobs.specs.declared.job.Job.{Job}
use Rattle.geo_jobs.specs.declared.job.Role.{Role}
use Rattle.geo_jobs.specs.declared.job.Role.TheVariants as roles
use Rattle.geo_jobs.specs.Causes.{Cause}
use Rattle.geo_jobs.specs.Clients.{view_shown}
use Rattle.geo_jobs.specs.Jobs.{DidTurn, IsOfRole}

-- a role stays: a client keeps its actor and the view that it shows, and a disk worker its number and its disks, whose
-- drives did what the added entries say
abbrev pub IsKept : {D : Type 0} → (Drive D → DriveView) → List Entry → Role D → Role D → Type 0
IsKept seen added (roles.Client a) (roles.Client b) = (b.actor ≡ a.actor) × (view_shown b ≡ view_shown a)
IsKept seen added (roles.Events a) (roles.Events b) = ⊤
IsKept seen added (roles.Down a) (roles.Down b) = ⊤
IsKept seen added (roles.Up a) (roles.Up b) = ⊤
IsKept seen added (roles.Disk a) (roles.Disk b) =
    HasServed seen added a.drives.items b.drives.items × (b.worker ≡ a.worker)
IsKept seen added _ _ = ⊥

-- a pass went on by steps of its role
pub record RoleRan {D : Type 0} (seen : Drive D → DriveView) (p q : MeshPass) (a b : Role D) : Type 0 where
  pub added : List Entry
  pub goes : Goes p q added
  pub kinds : All (λ (e : Entry). IsOfRole a e.step) added
  pub kept : IsKept seen added a b

-- a job went on
abbrev pub JobRan : {D : Type 0} → (Drive D → DriveView) → Job D → Job D → Type 0
JobRan seen a b = RoleRan seen a.pass b.pass a.role b.role

-- so many turns in a row were idle
unfoldable pub IdleTurns : {J : Type 0} → (J → J → Turn → Type 0) → ℕ → J → J → Type 0
IdleTurns did zero a b = a ≡ b
IdleTurns {J} did (suc n) a b = (m : J) × IdleTurns did n a m × did m b turns.Idle

-- a job went on, and then so many turns in a row were idle
pub record RestedFor {D : Type 0} (opened : World) (seen : Drive D → DriveView) (count : ℕ) (a b : Job D) : Type 0
  where
    pub from : Job D
    pub ran : JobRan seen a from
    pub idle : IdleTurns (DidTurn opened seen) count from b

-- a job went on, and then a last turn had this answer, for its cause
pub record EndedBy {D : Type 0} (opened : World) (seen : Drive D → DriveView) (a b : Job D) (answer : Turn) : Type 0
  where
    pub from : Job D
    pub ran : JobRan seen a from
    pub did : DidTurn opened seen from b answer
    pub cause : Cause opened b.pass a.role answer
