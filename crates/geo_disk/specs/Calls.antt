-- What a disk is asked, and what it answers.
use Rattle.std.specs.Prelude.{ℕ, List, [], Option, Some, None, Result, Ok, Err}
use Rattle.geo_base.specs.declared.request.BioCmd.{BioCmd}
use Rattle.geo_disk.specs.declared.disk.DiskFailed.{DiskFailed}

-- a call of a disk, with the bytes that passed, and how it ended
pub record CallMade : Type 0 where
  -- what was asked
  pub cmd : BioCmd
  -- the first sector, and how many: 0 and 0 of a flush
  pub first : ℕ
  pub count : ℕ
  -- the bytes that a write carried, or that a read gave: none of another call, and none of a read that failed
  pub bytes : List ℕ
  -- how many of the sectors were done before the call failed, where it failed
  pub failed : Option ℕ

-- how many sectors were done where a call failed
abbrev pub failed_of : Result (Unit {0}) DiskFailed → Option ℕ
failed_of (Ok _) = None
failed_of (Err e) = Some e.done

-- the bytes that a read gave: none where it failed
abbrev pub given_by : Result (Unit {0}) DiskFailed → List ℕ → List ℕ
given_by (Ok _) bytes = bytes
given_by (Err _) bytes = []

-- the call that asked for so many sectors from the first on, by which these bytes passed, and was answered so
abbrev pub disk_call : BioCmd → ℕ → ℕ → List ℕ → Result (Unit {0}) DiskFailed → CallMade
disk_call cmd first count bytes answer =
    record { cmd = cmd; first = first; count = count; bytes = bytes; failed = failed_of answer }
