-- What is to be done for a request, by its head alone.
use Rattle.std.specs.Prelude.{ℕ, ◌+◌, ◌==◌, nat_lt, Bool, false, ◌&&◌, ◌||◌, Option, Some, None, if◌then◌else◌}
use Rattle.geo_base.specs.declared.request.BioCmd.{BioCmd}
use Rattle.geo_base.specs.declared.request.BioCmd.TheVariants as cmds
use Rattle.geo_nbd.specs.declared.request.Request.{Request}
use Rattle.geo_nbd.specs.declared.numbers.TheConstants as numbers
use Rattle.geo_server.specs.declared.judging.Judged.{Judged}
use Rattle.geo_server.specs.declared.judging.Judged.TheVariants as judged
use Rattle.geo_server.specs.declared.judging.TheConstants.{MAX_TRANSFER}

-- the command that a kind of request stands for: TRIM and WRITE_ZEROES both leave zeros
abbrev pub cmd_of : ℕ → Option BioCmd
cmd_of kind =
    if kind == numbers.REQUEST_READ then Some cmds.Read
    else (if kind == numbers.REQUEST_WRITE then Some cmds.Write
    else (if kind == numbers.REQUEST_FLUSH then Some cmds.Flush
    else (if kind == numbers.REQUEST_TRIM then Some cmds.Delete
    else (if kind == numbers.REQUEST_WRITE_ZEROES then Some cmds.Delete else None))))

-- whether all its flags are known: FUA, and NO_HOLE of WRITE_ZEROES
abbrev pub are_known : ℕ → ℕ → Bool
are_known kind flags = nat_lt flags 2 || (nat_lt flags 4 && (kind == numbers.REQUEST_WRITE_ZEROES))

-- the error of a range that goes past the end
abbrev pub past_end : BioCmd → ℕ
past_end cmds.Read = numbers.ERROR_INVALID
past_end _ = numbers.ERROR_NO_SPACE

-- whether so many bytes are more than a request may carry; only a read and a write carry some
abbrev pub is_too_long : BioCmd → ℕ → Bool
is_too_long cmds.Read len = nat_lt MAX_TRANSFER len
is_too_long cmds.Write len = nat_lt MAX_TRANSFER len
is_too_long _ len = false

-- a range in an export of so many bytes: not empty, not too long, and not past the end
abbrev pub judged_range : ℕ → BioCmd → ℕ → ℕ → Judged
judged_range size cmd offset len =
    if (len == 0) || is_too_long cmd len then judged.Fails numbers.ERROR_INVALID
    else (if nat_lt size (offset + len) then judged.Fails (past_end cmd) else judged.Stands cmd)

abbrev pub judged_cmd : ℕ → BioCmd → Request → Judged
judged_cmd size cmds.Flush r = judged.Stands cmds.Flush
judged_cmd size cmd r = judged_range size cmd r.offset r.len

abbrev pub judged_as : ℕ → Option BioCmd → Request → Judged
judged_as size None r = judged.Fails numbers.ERROR_INVALID
judged_as size (Some cmd) r =
    if are_known r.kind r.flags then judged_cmd size cmd r else judged.Fails numbers.ERROR_INVALID

-- a request to an export of so many bytes: the session ends by it, it fails with an error, or it is a command
abbrev pub judge : ℕ → Request → Judged
judge size r = if r.kind == numbers.REQUEST_DISCONNECT then judged.Ends else judged_as size (cmd_of r.kind) r

-- how many bytes follow a head: those of a write; None where they are more than are read, and the session ends
abbrev pub data_len : Request → Option ℕ
data_len r =
    if r.kind == numbers.REQUEST_WRITE then (if nat_lt MAX_TRANSFER r.len then None else Some r.len) else Some 0
