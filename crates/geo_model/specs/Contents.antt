-- What the disks hold, by what the log says that they were asked and answered.
use Rattle.std.specs.Prelude.{◌≡◌, ℕ, ◌==◌, List, fold, Option, Some, None, IfSome, if◌then◌else◌, ⊤}
use Rattle.geo_base.specs.Sectors.{cut_into, with_sectors, bytes_between, zero_sectors}
use Rattle.geo_base.specs.declared.request.BioCmd.{BioCmd}
use Rattle.geo_base.specs.declared.request.BioCmd.TheVariants as cmds
use Rattle.geo_model.specs.declared.step.DeviceResult.{DeviceResult}
use Rattle.geo_model.specs.declared.step.DeviceResult.TheVariants as devices
use Rattle.geo_model.specs.declared.step.Entry.{Entry}
use Rattle.geo_model.specs.declared.step.Request.{Request}
use Rattle.geo_model.specs.declared.step.Step.{Step}
use Rattle.geo_model.specs.declared.step.Step.TheVariants as steps
use Rattle.geo_model.specs.Log.{IsSplitBy}
use Rattle.geo_model.specs.Results.{request_of}

-- what a disk holds after the first n sectors of a request were done
abbrev pub after_command : ℕ → BioCmd → Request → ℕ → List (List ℕ) → List (List ℕ)
after_command size cmds.Write q n held = with_sectors held q.first (cut_into n size q.bytes)
after_command size cmds.Delete q n held = with_sectors held q.first (zero_sectors n size)
after_command size _ q n held = held

-- the sectors of a request that were done, by what the disk answered
abbrev pub done_sectors : Request → DeviceResult → ℕ
done_sectors q (devices.Bytes bytes) = 0
done_sectors q devices.Done = q.count
done_sectors q (devices.Failed done) = done

-- what a disk holds after it answered a request, where the request is one of this disk
abbrev pub after_answer : ℕ → ℕ → DeviceResult → List (List ℕ) → Option Request → List (List ℕ)
after_answer size disk got held None = held
after_answer size disk got held (Some q) =
    if q.disk == disk then after_command size q.cmd q (done_sectors q got) held else held

-- what a disk holds after a step, in a log that has the requests
abbrev pub after_step : List Entry → ℕ → ℕ → List (List ℕ) → Step → List (List ℕ)
after_step log size disk held (steps.Deliver b got) = after_answer size disk got held (request_of log b)
after_step log size disk held _ = held

-- what a disk with sectors of this size holds after the log, if it held these before
unfoldable pub contents : ℕ → List (List ℕ) → List Entry → ℕ → List (List ℕ)
contents size held log disk = fold (λ sectors e. after_step log size disk sectors e.step) held log

-- the bytes of the sectors of a request
abbrev pub bytes_at : List (List ℕ) → Request → List ℕ
bytes_at held q = bytes_between held q.first q.count

-- bytes that were read of a disk are those that it held
abbrev pub ReadsWhatIsHeld : ℕ → List (List ℕ) → List Entry → ℕ → Step → Type 0
ReadsWhatIsHeld size held earlier disk (steps.Deliver b (devices.Bytes bytes)) =
    IfSome (request_of earlier b) (λ q. q.disk ≡ disk → bytes ≡ bytes_at (contents size held earlier disk) q)
ReadsWhatIsHeld size held earlier disk _ = ⊤

-- each Deliver of bytes of a disk carries what the disk held after the log before it
unfoldable pub AreTrue : ℕ → List (List ℕ) → List Entry → ℕ → Type 0
AreTrue size held log disk =
    (earlier : List Entry) (e : Entry) → IsSplitBy log earlier e → ReadsWhatIsHeld size held earlier disk e.step
