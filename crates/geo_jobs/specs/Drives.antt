-- The drives of a worker, and what they do.
use Rattle.std.specs.Prelude.{◌≡◌, ◌≢◌, ℕ, List, [], ◌∷◌, map, All, AllPairs, Some, slice_get, slice_set}
use Rattle.geo_disk.specs.declared.drive.Drive.{Drive}
use Rattle.geo_model.specs.declared.step.DeviceResult.{DeviceResult}
use Rattle.geo_model.specs.declared.step.Entry.{Entry}
use Rattle.geo_model.specs.declared.step.Outcome.TheVariants as outcomes
use Rattle.geo_model.specs.declared.step.Request.{Request}
use Rattle.geo_model.specs.declared.step.Step.TheVariants as steps
use Rattle.geo_serve.specs.Drives.{DriveView}
use Rattle.geo_serve.specs.Serve.{CanServe, HasRoom, Serves}

-- the numbers of the disks
abbrev pub disks_of : {D : Type 0} → List (ℕ × Drive D) → List ℕ
disks_of {D} items = map (λ (x : ℕ × Drive D). x.0) items

-- the worker hasn't the disk
abbrev pub LacksDisk : {D : Type 0} → List (ℕ × Drive D) → ℕ → Type 0
LacksDisk {D} items disk = All (λ (x : ℕ × Drive D). x.0 ≢ disk) items

-- no disk has two drives, and each drive has the sector size and the sectors that the facts tell of its disk
pub record HasDrives {D : Type 0} (facts : List (ℕ × ℕ)) (seen : Drive D → DriveView) (items : List (ℕ × Drive D))
    : Type 0 where
  pub apart : AllPairs (λ a b. a ≢ b) (disks_of items)
  pub sizes : All (λ (x : ℕ × Drive D). slice_get facts x.0 ≡ Some ((seen x.1).sector, (seen x.1).count)) items

-- the drive of the request's disk can serve it in the room
abbrev pub CanAnswer : {D : Type 0} → (Drive D → DriveView) → List (ℕ × Drive D) → Request → List ℕ → Type 0
CanAnswer {D} seen items q room =
    All (λ (x : ℕ × Drive D). x.0 ≡ q.disk → CanServe (seen x.1) q × HasRoom (seen x.1) q room) items

-- the drive of the request's disk served it, and no other was asked
pub record AnswersOne {D : Type 0} (seen : Drive D → DriveView) (q : Request) (before after : List (ℕ × Drive D))
    (got : DeviceResult) : Type 0 where
  pub place : ℕ
  pub old : Drive D
  pub at : slice_get before place ≡ Some (q.disk, old)
  pub new : Drive D
  pub serves : Serves q (seen old) (seen new) got
  pub drives : after ≡ slice_set before place (q.disk, new)

-- the two entries of a bio that was taken and delivered
abbrev pub take_and_deliver : ℕ → ℕ → ℕ → Request → DeviceResult → List Entry
take_and_deliver number disk bio q got =
    record { seat = number; step = steps.Take disk bio; outcome = outcomes.Asked q }
    ∷ record { seat = number; step = steps.Deliver bio got; outcome = outcomes.Delivered } ∷ []

-- a bio was taken for its disk, the drive of the disk served the request, and what it answered was delivered
pub record ServesAt {D : Type 0} (seen : Drive D → DriveView) (number disk bio : ℕ) (before after : List (ℕ × Drive D))
    (added : List Entry) : Type 0 where
  pub request : Request
  pub disk_is : request.disk ≡ disk
  pub got : DeviceResult
  pub answers : AnswersOne seen request before after got
  pub adds : added ≡ take_and_deliver number disk bio request got
