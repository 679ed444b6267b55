-- Workers by their numbers.
use Rattle.std.specs.Prelude.{◌≡◌, ℕ, ◌+◌, List, [], ◌∷◌, map, ⊤}
use Rattle.geo_disk.specs.Memory.{Memory}
use Rattle.geo_lock.specs.Yard.{IsPassOf, YardView}
use Rattle.geo_jobs.specs.MeshStart.{MeshStart}
use Rattle.geo_jobs.specs.declared.lanes.Lanes.{Lanes}
use Rattle.geo_jobs.specs.Passes.{MeshPass}
use Rattle.geo_jobs.specs.declared.job.Role.{Role}
use Rattle.geo_jobs.specs.declared.run.Worker.{Worker}
use Rattle.geo_jobs.specs.Jobs.{IsRoleOf}
use Rattle.geo_jobs.specs.Workers.{IsReady}
use Rattle.geo_tests_jobs.specs.Benches.{seen_drive}

-- the pass 0 of a yard, which made no step, and of which so many passes were made with itself
pub record IsFirst (y : YardView MeshStart) (count : ℕ) (p : MeshPass) : Type 0 where
  pub of_yard : IsPassOf y p
  pub number : p.number ≡ 0
  pub own : p.own ≡ []
  pub made : p.made ≡ count

-- a role of a job that made no step yet
abbrev pub IsNewRole : Lanes → Role Memory → Type 0
IsNewRole lanes r = (p : MeshPass) → p.own ≡ [] → IsRoleOf lanes p r

-- a worker that can go, with this number
pub record IsStanding (y : YardView MeshStart) (lanes : Lanes) (n : ℕ) (w : Worker Memory) : Type 0 where
  pub ready : IsReady y lanes seen_drive w
  pub number : w.job.pass.number ≡ n

-- workers that can go, with the numbers from this one on
abbrev pub AreStanding : YardView MeshStart → Lanes → ℕ → List (Worker Memory) → Type 0
AreStanding y lanes n [] = ⊤
AreStanding y lanes n (w ∷ ws) = IsStanding y lanes n w × AreStanding y lanes (n + 1) ws

-- the passes of workers
abbrev pub passes_of : List (Worker Memory) → List MeshPass
passes_of ws = map (λ (w : Worker Memory). w.job.pass) ws
