-- A Take under the lock, and the Deliver that answers it.
use Rattle.std.specs.Prelude.{◌≡◌, ℕ, List, [], ◌∷◌, ◌++◌, Some, IsSome, IsSomeAnd, IsTrue, slice_get}
use Rattle.geo_model.specs.declared.step.DeviceResult.{DeviceResult}
use Rattle.geo_model.specs.declared.step.Entry.{Entry}
use Rattle.geo_model.specs.declared.step.Outcome.TheVariants as outcomes
use Rattle.geo_model.specs.declared.step.Request.{Request}
use Rattle.geo_model.specs.declared.step.Step.TheVariants as steps
use Rattle.geo_model.specs.FixedOrder.{FoundFull, WasIdle}
use Rattle.geo_serve.specs.Drives.{DriveView}
use Rattle.geo_serve.specs.Serve.{CanServe, fits_request}
use Rattle.geo_core.specs.declared.logged.MeshStart.{MeshStart}
use Rattle.geo_core.specs.Mesh.{entry_of}
use Rattle.geo_jobs.specs.declared.taking.Taken.{Taken}
use Rattle.geo_jobs.specs.declared.taking.Taken.TheVariants as takes
use Rattle.geo_jobs.specs.Passes.{Goes, MeshPass, opened_by}
use Rattle.geo_jobs.specs.Making.{MakesStep}

-- the drive has the sizes with which the mesh began for a disk
abbrev pub HasSizesOf : MeshStart → ℕ → DriveView → Type 0
HasSizesOf s disk d = slice_get s.facts disk ≡ Some (d.sector, d.count)

-- the request is one to a disk of the mesh, and each drive of the disk's sizes can serve it
pub record IsAskedOf (s : MeshStart) (disk : ℕ) (q : Request) : Type 0 where
  pub disk_is : q.disk ≡ disk
  pub stands : IsSome (slice_get s.facts disk)
  pub can : (d : DriveView) → HasSizesOf s disk d → CanServe d q

-- how a Take of a pass went
abbrev pub DidTake : MeshStart → MeshPass → MeshPass → ℕ → ℕ → Taken → Type 0
DidTake s p q disk bio (takes.Asked request) = MakesStep s p q (steps.Take disk bio) (outcomes.Asked request)
    × IsAskedOf s disk request
DidTake s p q disk bio takes.NotEnabled = Goes p q []
    × WasIdle (opened_by s) q.seen p.number (steps.Take disk bio)
DidTake s p q disk bio takes.LogFull = Goes p q [] × FoundFull (opened_by s) q.seen p.number (steps.Take disk bio)
DidTake s p q disk bio takes.NoMemory = Goes p q []

-- the pass can deliver an answer to a bio: its last own entry is the Take of the bio, and the answer fits the request
-- in the sectors of the disk
pub record CanDeliver (s : MeshStart) (p : MeshPass) (bio : ℕ) (got : DeviceResult) : Type 0 where
  pub earlier : List Entry
  pub disk : ℕ
  pub request : Request
  pub own : p.own ≡ earlier ++ entry_of p.number (steps.Take disk bio) (outcomes.Asked request) ∷ []
  pub fits : IsSomeAnd (slice_get s.facts disk) (λ sizes. IsTrue (fits_request sizes.0 request got))
