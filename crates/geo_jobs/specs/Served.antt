-- What drives did by the entries of a disk worker.
use Rattle.std.specs.Prelude.{◌≡◌, ℕ, List, Contains, IsSome, ⊤}
use Rattle.std.specs.List.{AllZip}
use Rattle.geo_disk.specs.declared.drive.Drive.{Drive}
use Rattle.geo_model.specs.declared.step.Entry.{Entry}
use Rattle.geo_model.specs.declared.step.Step.{Step}
use Rattle.geo_model.specs.declared.step.Step.TheVariants as steps
use Rattle.geo_model.specs.Results.{device_answer_of, request_of}
use Rattle.geo_serve.specs.Drives.{DriveView}
use Rattle.geo_serve.specs.Served.{IsServed}
use Rattle.geo_laws_disks.specs.DriveLaws.{AreTaken}

-- a disk worker takes bios for its disks, and delivers what these answer
abbrev pub IsOfDisks : List ℕ → Step → Type 0
IsOfDisks disks (steps.Take disk bio) = Contains disks disk
IsOfDisks disks (steps.Deliver bio got) = ⊤
IsOfDisks disks _ = ⊥

-- each bio that the entries take they deliver
abbrev pub AreAnswered : List Entry → Type 0
AreAnswered es = (b : ℕ) → IsSome (request_of es b) → IsSome (device_answer_of es b)

-- by these entries each drive did what they say that it was asked, and kept its place and its number; each Deliver has
-- its Take, and each Take its Deliver
pub record HasServed {D : Type 0} (seen : Drive D → DriveView) (added : List Entry) (before after : List (ℕ × Drive D))
    : Type 0 where
  pub taken : AreTaken added added
  pub answered : AreAnswered added
  pub served : AllZip (λ (x y : ℕ × Drive D). (y.0 ≡ x.0) × IsServed added x.0 (seen x.1) (seen y.1)) before after
