-- The end of the yard, and the answers of the jobs.
use Rattle.std.specs.Prelude.{◌≡◌, ◌≢◌, List, map, filter_map, All, Any}
use Rattle.geo_lock.specs.Yard.{IsEnd}
use Rattle.geo_core.specs.Mesh.{IsHistory, MeshView}
use Rattle.geo_core.specs.Logged.{mesh_of, mesh_start}
use Rattle.geo_jobs.specs.declared.turn.Turn.{Turn}
use Rattle.geo_jobs.specs.declared.turn.Turn.TheVariants as turns
use Rattle.geo_jobs.specs.Passes.{MeshPass}
use Rattle.geo_jobs.specs.DriveList.{DriveListView}
use Rattle.geo_jobs.specs.declared.run.Worker.{Worker}
use Rattle.geo_jobs.specs.Jobs.{drives_of}
use Rattle.geo_jobs.specs.declared.left.JobsEnd.{JobsEnd}
use Rattle.geo_jobs.specs.declared.left.JobsEnd.TheVariants as ends
use Rattle.geo_jobs.specs.Started.{MeshYard}

-- the passes of workers, and the lists of drives of those that are disk workers
abbrev pub passes_of : {D : Type 0} → List (Worker D) → List MeshPass
passes_of {D} ws = map (λ (w : Worker D). w.job.pass) ws

abbrev pub lists_of : {D : Type 0} → List (Worker D) → List (DriveListView D)
lists_of {D} ws = filter_map (λ (w : Worker D). drives_of w.job.role) ws

-- their answers
abbrev pub answers_of : {D : Type 0} → List (Worker D) → List Turn
answers_of {D} ws = map (λ (w : Worker D). w.answer) ws

-- the mesh at the end of a yard, whose passes these are
abbrev pub EndsYard : MeshYard → List MeshPass → MeshView → Type 0
EndsYard y ps m = IsEnd mesh_start (λ x. x.log) (λ s log. IsHistory (mesh_of s log)) (λ e. e.seat) y ps m

-- how the jobs ended, by their answers: memory was wanting to one; or else one found the log full; or else none did
abbrev pub IsEndOf : {D : Type 0} → List (Worker D) → JobsEnd → Type 0
IsEndOf {D} ws ends.Idle = All (λ (w : Worker D). (w.answer ≢ turns.NoMemory) × (w.answer ≢ turns.LogFull)) ws
IsEndOf {D} ws ends.LogFull =
    All (λ (w : Worker D). w.answer ≢ turns.NoMemory) ws × Any (λ (w : Worker D). w.answer ≡ turns.LogFull) ws
IsEndOf {D} ws ends.NoMemory = Any (λ (w : Worker D). w.answer ≡ turns.NoMemory) ws

-- how jobs and one more ended, by the answer of that
abbrev pub worse : JobsEnd → Turn → JobsEnd
worse e turns.NoMemory = ends.NoMemory
worse ends.NoMemory turns.LogFull = ends.NoMemory
worse e turns.LogFull = ends.LogFull
worse e _ = e
