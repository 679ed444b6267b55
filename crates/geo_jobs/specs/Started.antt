-- Jobs by their numbers, before they begin.
use Rattle.std.specs.Prelude.{◌≡◌, ℕ, ◌+◌, ◌<◌, ◌≤◌, List, [], ◌∷◌, length, false, ⊤}
use Rattle.geo_disk.specs.declared.drive.Drive.{Drive}
use Rattle.geo_serve.specs.Drives.{DriveView}
use Rattle.geo_lock.specs.Yard.{IsPassOf, YardView}
use Rattle.geo_core.specs.declared.logged.MeshStart.{MeshStart}
use Rattle.geo_jobs.specs.declared.lanes.Lanes.{Lanes}
use Rattle.geo_jobs.specs.declared.turn.Turn.TheVariants as turns
use Rattle.geo_jobs.specs.Passes.{MeshPass}
use Rattle.geo_jobs.specs.DriveList.{DriveListView}
use Rattle.geo_jobs.specs.declared.job.Role.{Role}
use Rattle.geo_jobs.specs.declared.job.Role.TheVariants as roles
use Rattle.geo_jobs.specs.declared.run.Worker.{Worker}
use Rattle.geo_jobs.specs.Workers.{IsReady}
use Rattle.geo_jobs.specs.declared.passes.Passes.{Passes}
use Rattle.geo_lane.specs.LanePass.{LanePassView}
use Rattle.geo_jobs.specs.Lanes.{taker_of}
use Rattle.geo_jobs.specs.Deal.{dealt}

-- a yard that holds a mesh
abbrev pub MeshYard : Type 0
MeshYard = YardView MeshStart

-- the pass 0 of a yard, which made no step, and of which so many passes were made with itself
pub record IsFirst (y : MeshYard) (count : ℕ) (p : MeshPass) : Type 0 where
  pub of_yard : IsPassOf y p
  pub number : p.number ≡ 0
  pub own : p.own ≡ []
  pub made : p.made ≡ count

-- the next pass, which is made of it
abbrev pub pass_of_number : MeshPass → ℕ → MeshPass
pass_of_number first number = record first { number = number; own = []; made = 0 }

-- a worker that begins
abbrev pub beginning : {D : Type 0} → MeshPass → Role D → Worker D
beginning pass role = record { job = record { pass = pass; role = role; quiet = false }; answer = turns.Idle }

-- the role of the job with a number, where there are so many actors: first come the clients in order of their actors,
-- then the event worker, the down worker, the up worker and the two disk workers, which have the drives in turn
abbrev pub HasRole : {D : Type 0} → ℕ → List (Drive D) → ℕ → Role D → Type 0
HasRole actors drives number (roles.Client j) = (j.actor < actors) × (number ≡ j.actor + 1)
HasRole actors drives number (roles.Events j) = number ≡ actors + 1
HasRole actors drives number (roles.Down j) = number ≡ actors + 2
HasRole actors drives number (roles.Up j) = number ≡ actors + 3
HasRole actors drives number (roles.Disk j) =
    (j.worker < 2) × (number ≡ actors + 4 + j.worker) × (j.drives.items ≡ dealt j.worker drives)

-- a worker that has the pass and the role of its number, and made no step
pub record IsStarted {D : Type 0} (y : MeshYard) (lanes : Lanes) (seen : Drive D → DriveView) (actors : ℕ)
    (drives : List (Drive D)) (n : ℕ) (w : Worker D) : Type 0 where
  pub ready : IsReady y lanes seen w
  pub number : w.job.pass.number ≡ n
  pub own : w.job.pass.own ≡ []
  pub role : HasRole actors drives n w.job.role

-- workers that have the numbers from this one on
abbrev pub AreStarted : {D : Type 0} → MeshYard → Lanes → (Drive D → DriveView) → ℕ → List (Drive D) → ℕ
    → List (Worker D) → Type 0
AreStarted y lanes seen actors drives n [] = ⊤
AreStarted y lanes seen actors drives n (w ∷ ws) =
    IsStarted y lanes seen actors drives n w × AreStarted y lanes seen actors drives (n + 1) ws

-- some clients of so many actors have begun, and the passes of the next one are made of these
pub record HasBegun {D : Type 0} (y : MeshYard) (lanes : Lanes) (seen : Drive D → DriveView) (actors : ℕ)
    (first : MeshPass) (down : LanePassView) (ws : List (Worker D)) : Type 0 where
  pub few : length ws ≤ actors
  pub first_is : IsFirst y (length ws + 1) first
  pub down_is : down ≡ taker_of lanes.down (length ws)
  pub started : (drives : List (Drive D)) → AreStarted y lanes seen actors drives 1 ws

-- the workers that aren't clients, with the passes that come next
abbrev pub other_workers : {D : Type 0} → MeshPass → Passes → DriveListView D → DriveListView D → List (Worker D)
other_workers first p even odd =
    beginning (pass_of_number first first.made) (roles.Events (record { down = p.events_down }))
    ∷ beginning (pass_of_number first (first.made + 1))
    (roles.Down (record { down = p.down_takes; up = p.down_up; disk0 = p.down_disk0; disk1 = p.down_disk1 }))
    ∷ beginning (pass_of_number first (first.made + 2)) (roles.Up (record { up = p.up_takes }))
    ∷ beginning (pass_of_number first (first.made + 3))
    (roles.Disk (record { worker = 0; drives = even; own = p.disk0_takes; up = p.disk0_up }))
    ∷ beginning (pass_of_number first (first.made + 4))
    (roles.Disk (record { worker = 1; drives = odd; own = p.disk1_takes; up = p.disk1_up })) ∷ []

-- workers that are ready
abbrev pub AreReady : {D : Type 0} → MeshYard → Lanes → (Drive D → DriveView) → List (Worker D) → Type 0
AreReady y lanes seen [] = ⊤
AreReady y lanes seen (w ∷ ws) = IsReady y lanes seen w × AreReady y lanes seen ws
