-- A request to a disk, and what comes of it (g_bio(9)).
use Rattle.std.specs.Prelude.{◌≡◌, ◌↔◌, ℕ, ◌+◌, ◌*◌, ◌==◌, ◌<◌, ◌≤◌, nat_le, Bool, true, false, not, ◌&&◌, ◌||◌, List, [], ◌∷◌, ◌++◌, length, Option, Result, Ok, Err, IfSome, IsTrue, Contains, if◌then◌else◌, ⊤}
use Rattle.std.specs.Option.{option_map}
use Rattle.geo_base.specs.declared.limits.TheConstants.{MAX_REQUEST_BYTES}
use Rattle.geo_disk.specs.declared.disk.DiskFailed.{DiskFailed}
use Rattle.geo_disk.specs.Counts.{counted_if, counted_on}
use Rattle.geo_headline.specs.Outside.{call_served}
use Rattle.geo_model.specs.declared.step.DeviceResult.{DeviceResult}
use Rattle.geo_model.specs.declared.step.DeviceResult.TheVariants as devices
use Rattle.geo_model.specs.declared.step.Request.{Request}
use Rattle.geo_model.specs.Words.{is_flush, is_read, is_write}
use Rattle.geo_model.specs.Contents.{after_command, bytes_at, done_sectors}
use Rattle.geo_serve.specs.Drives.{DriveView, HasAllSectors, HasWholeSectors, RamCalls, called_once}

-- a disk of so many sectors can be asked: the request lies inside it and isn't too long, and a WRITE has the bytes of
-- its sectors
pub record CanServe (d : DriveView) (q : Request) : Type 0 where
  pub some_size : 0 < d.sector
  pub inside : q.first + q.count ≤ d.count
  pub not_long : q.count * d.sector ≤ MAX_REQUEST_BYTES
  pub bytes : IsTrue (is_write q.cmd) → length q.bytes ≡ q.count * d.sector

-- the room has a place for each byte of a READ
abbrev pub HasRoom : DriveView → Request → List ℕ → Type 0
HasRoom d q room = IsTrue (is_read q.cmd) → q.count * d.sector ≤ length room

-- whether an answer fits a request in sectors of so many bytes: a READ is answered by the bytes of its sectors, another
-- request by Done, and a failure did no more sectors than were asked, and none of a READ or a FLUSH
abbrev pub fits_request : ℕ → Request → DeviceResult → Bool
fits_request sector q (devices.Bytes bytes) = is_read q.cmd && (length bytes == q.count * sector)
fits_request sector q devices.Done = not (is_read q.cmd)
fits_request sector q (devices.Failed done) =
    if is_read q.cmd || is_flush q.cmd then done == 0 else nat_le done q.count

-- whether the disk failed
abbrev pub is_failed : DeviceResult → Bool
is_failed (devices.Failed done) = true
is_failed _ = false

-- the sectors of a disk after a request, where they are told
abbrev pub held_after : ℕ → Request → DeviceResult → Option (List (List ℕ)) → Option (List (List ℕ))
held_after sector q got held = option_map (after_command sector q.cmd q (done_sectors q got)) held

-- bytes that were read are those that the disk held
abbrev pub TellsWhatIsHeld : Request → DeviceResult → List (List ℕ) → Type 0
TellsWhatIsHeld q (devices.Bytes bytes) held = bytes ≡ bytes_at held q
TellsWhatIsHeld q _ held = ⊤

-- a disk in memory failed exactly if the number of this call is one of those that fail
abbrev pub FailsAsTold : DeviceResult → RamCalls → Type 0
FailsAsTold got c = IsTrue (is_failed got) ↔ Contains c.fails (counted_on c.calls)

-- one call of the disk served the request with this answer: it is what the disk was asked, and nothing else was; the
-- sectors stay whole, and as many as they are; a failure is one fault more, and nothing else is
pub record Serves (q : Request) (old new : DriveView) (got : DeviceResult) : Type 0 where
  pub fits : IsTrue (fits_request old.sector q got)
  pub tells : IfSome old.held (TellsWhatIsHeld q got)
  pub held : new.held ≡ held_after old.sector q got old.held
  pub whole : HasWholeSectors old → HasWholeSectors new
  pub all : HasAllSectors old → HasAllSectors new
  pub sector : new.sector ≡ old.sector
  pub count : new.count ≡ old.count
  pub asked : new.asked ≡ old.asked ++ call_served q got ∷ []
  pub faults : new.faults ≡ counted_if (is_failed got) old.faults
  pub ram : new.ram ≡ option_map called_once old.ram
  pub fails : IfSome old.ram (FailsAsTold got)

-- the answer by how a call ended that reads nothing
abbrev pub answer_without_bytes : Result (Unit {0}) DiskFailed → DeviceResult
answer_without_bytes (Ok done) = devices.Done
answer_without_bytes (Err failed) = devices.Failed failed.done
