-- What drives can serve, and what they do along a log.
use Rattle.std.specs.Prelude.{◌≡◌, ℕ, ◌*◌, List, [], ◌∷◌, ◌++◌, Some, None, Ok, IsSome, IsSomeAnd, IfSome, IsTrue, slice_get, slice_set}
use Rattle.std.specs.List.{AllByRecursion}
use Rattle.geo_model.specs.declared.step.DeviceResult.{DeviceResult}
use Rattle.geo_model.specs.declared.step.Entry.{Entry}
use Rattle.geo_model.specs.declared.step.Outcome.TheVariants as outcomes
use Rattle.geo_model.specs.declared.step.Request.{Request}
use Rattle.geo_model.specs.declared.step.Step.{Step}
use Rattle.geo_model.specs.declared.step.Step.TheVariants as steps
use Rattle.geo_model.specs.World.{World, Bio, HeaderDisk, bio_at}
use Rattle.geo_model.specs.Words.{is_read}
use Rattle.geo_model.specs.Step.{step, is_enabled}
use Rattle.geo_model.specs.FixedOrder.{delivered_in}
use Rattle.geo_model.specs.Results.{request_of}
use Rattle.geo_model.specs.Fitting.{Firm}
use Rattle.geo_laws_disks.specs.DiskLaws.{LiesInside}
use Rattle.geo_serve.specs.Drives.{DriveView}
use Rattle.geo_serve.specs.Serve.{CanServe, Serves, fits_request}
use Rattle.geo_serve.specs.Served.{AreServed}

-- a drive has the sizes of a disk of the header
pub record HasSizes (d : DriveView) (header : HeaderDisk) : Type 0 where
  pub sector : d.sector ≡ header.sector
  pub size : header.size ≡ d.sector * d.count

-- a bio is a READ of so many bytes
abbrev pub IsReadOf : ℕ → Bio → Type 0
IsReadOf bytes x = IsTrue (is_read x.cmd) × (x.len ≡ bytes)

-- a request of a bio that a seat took can be served by such a drive, a READ asks for as many bytes as its bio, and an
-- answer that fits the request can be delivered
pub record IsServable (before after : World) (seat b : ℕ) (q : Request) (header : HeaderDisk) : Type 0 where
  pub reads : IsTrue (is_read q.cmd) → IsSomeAnd (bio_at before b) (IsReadOf (q.count * header.sector))
  pub can : (d : DriveView) → HasSizes d header → CanServe d q
  pub fits : (got : DeviceResult) → IsTrue (fits_request header.sector q got)
      → IsTrue (is_enabled after seat (steps.Deliver b got))

-- so it is with each Take of a firm mesh that asks for what lies inside its disk
abbrev pub TakesAreServable : Type 0
TakesAreServable =
    (w after : World) (seat disk b : ℕ) (q : Request) (header : HeaderDisk) → Firm w
    → step w seat (steps.Take disk b) ≡ Ok (after, outcomes.Asked q) → slice_get w.disks disk ≡ Some header
    → LiesInside q header → IsServable w after seat b q header

-- a step that delivers a bio delivers one for which the log has a request
abbrev pub IsTaken : List Entry → Step → Type 0
IsTaken log s = IfSome (delivered_in s) (λ b. IsSome (request_of log b))

-- each step of the entries does
abbrev pub AreTaken : List Entry → List Entry → Type 0
AreTaken log es = AllByRecursion (λ (e : Entry). IsTaken log e.step) es

-- drives that serve what they are asked do so along one entry more: one that delivers nothing, and one that delivers
-- what the drive of a request answered to it
pub record DrivesFollow : Type 0 where
  pub none : (drives : List DriveView) → AreServed [] drives drives
  pub quiet : (log : List Entry) (e : Entry) (before after : List DriveView) → AreTaken log log
      → delivered_in e.step ≡ None → AreServed log before after → AreServed (log ++ e ∷ []) before after
  pub answered : (log : List Entry) (e : Entry) (b : ℕ) (got : DeviceResult) (q : Request)
      (before mid : List DriveView) (old new : DriveView) → AreTaken log log → e.step ≡ steps.Deliver b got
      → request_of log b ≡ Some q → slice_get mid q.disk ≡ Some old → Serves q old new got → AreServed log before mid
      → AreServed (log ++ e ∷ []) before (slice_set mid q.disk new)
