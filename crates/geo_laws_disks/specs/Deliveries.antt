-- What a log delivers of a disk: the requests to it in the order of their Delivers, each with its answer.
use Rattle.std.specs.Prelude.{ℕ, ◌==◌, List, [], ◌∷◌, fold, filter_map, Option, Some, None, if◌then◌else◌, ⊤}
use Rattle.geo_model.specs.declared.step.DeviceResult.{DeviceResult}
use Rattle.geo_model.specs.declared.step.Entry.{Entry}
use Rattle.geo_model.specs.declared.step.Request.{Request}
use Rattle.geo_model.specs.declared.step.Step.{Step}
use Rattle.geo_model.specs.declared.step.Step.TheVariants as steps
use Rattle.geo_model.specs.Contents.{after_command, done_sectors}
use Rattle.geo_model.specs.Results.{request_of}
use Rattle.geo_serve.specs.Serve.{TellsWhatIsHeld}

-- a request, and what the disk answered
pub record Delivery : Type 0 where
  pub request : Request
  pub got : DeviceResult

-- what a step delivers of a disk, where it is known what was asked for each bio
abbrev pub delivery_of : ℕ → DeviceResult → Option Request → Option Delivery
delivery_of disk got None = None
delivery_of disk got (Some q) = if q.disk == disk then Some (record { request = q; got = got }) else None

abbrev pub delivery_in : (ℕ → Option Request) → ℕ → Step → Option Delivery
delivery_in asked disk (steps.Deliver b got) = delivery_of disk got (asked b)
delivery_in asked disk _ = None

-- what entries deliver, and what a log does
abbrev pub deliveries_by : (ℕ → Option Request) → ℕ → List Entry → List Delivery
deliveries_by asked disk es = filter_map (λ e. delivery_in asked disk e.step) es

abbrev pub deliveries : List Entry → ℕ → List Delivery
deliveries log disk = deliveries_by (request_of log) disk log

-- what a disk holds after them
abbrev pub after_delivery : ℕ → List (List ℕ) → Delivery → List (List ℕ)
after_delivery size held d = after_command size d.request.cmd d.request (done_sectors d.request d.got) held

abbrev pub held_by : ℕ → List (List ℕ) → List Delivery → List (List ℕ)
held_by size held ds = fold (after_delivery size) held ds

-- bytes that were read are those that the disk held before
abbrev pub AreTold : ℕ → List (List ℕ) → List Delivery → Type 0
AreTold size held [] = ⊤
AreTold size held (d ∷ ds) = TellsWhatIsHeld d.request d.got held × AreTold size (after_delivery size held d) ds
