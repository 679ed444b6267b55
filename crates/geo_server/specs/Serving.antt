-- A request on its way: the commands of the mesh that are made for it, one behind the other, and its reply.
use Rattle.std.specs.Prelude.{ℕ, ◌+◌, ◌-◌, ◌==◌, nat_lt, min, Bool, true, false, ◌&&◌, List, [], ◌++◌, length, take, drop, if◌then◌else◌}
use Rattle.geo_base.specs.declared.errno.Errno.{Errno}
use Rattle.geo_base.specs.declared.errno.Errno.TheVariants as errnos
use Rattle.geo_base.specs.declared.limits.TheConstants.{MAX_REQUEST_BYTES}
use Rattle.geo_base.specs.declared.request.BioCmd.{BioCmd}
use Rattle.geo_base.specs.declared.request.BioCmd.TheVariants as cmds
use Rattle.geo_model.specs.declared.command.Command.{Command}
use Rattle.geo_model.specs.declared.command.Command.TheVariants as commands
use Rattle.geo_model.specs.declared.step.Reply.{Reply}
use Rattle.geo_model.specs.declared.step.Reply.TheVariants as replies
use Rattle.geo_nbd.specs.declared.numbers.TheConstants as numbers
use Rattle.geo_nbd.specs.Messages.{data_chunk, done_chunk, error_chunk, simple_reply_bytes}
use Rattle.geo_server.specs.declared.asked.Asked.{Asked}
use Rattle.geo_server.specs.declared.serving.Going.{Going}
use Rattle.geo_server.specs.declared.serving.Going.TheVariants as goings

-- Commands

-- how many bytes the next command is for: no command of the mesh has more than 32,768
abbrev pub piece : Asked → ℕ
piece a = min (a.len - a.done) MAX_REQUEST_BYTES

-- the next command
abbrev pub command_as : BioCmd → List ℕ → Asked → Command
command_as cmds.Read handle a = commands.Read handle (a.offset + a.done) (piece a)
command_as cmds.Write handle a = commands.Write handle (a.offset + a.done) (take (piece a) (drop a.done a.bytes))
command_as cmds.Delete handle a = commands.Delete handle (a.offset + a.done) (piece a)
command_as cmds.Flush handle a = commands.Flush handle

abbrev pub next_command : List ℕ → Asked → Command
next_command handle a = command_as a.cmd handle a

-- Going on

-- whether a command changes what is kept, so that FUA asks for a flush behind it
abbrev pub changes : BioCmd → Bool
changes cmds.Write = true
changes cmds.Delete = true
changes _ = false

-- so many bytes more are done, with these that were read
abbrev pub further : Asked → List ℕ → Asked
further a bytes = record a { done = a.done + piece a; got = a.got ++ bytes }

-- a flush behind all
abbrev pub flushing : Asked → Asked
flushing a = record a { cmd = cmds.Flush }

-- what comes next: another piece, the flush that FUA asks for, or the reply
abbrev pub next_of : Asked → Going
next_of a =
    if nat_lt a.done a.len then goings.Goes a
    else (if a.fua && changes a.cmd then goings.Goes (flushing a) else goings.Ends a 0)

-- the number of an error
abbrev pub error_of : Errno → ℕ
error_of errnos.EPERM = numbers.ERROR_NOT_PERMITTED
error_of errnos.EINVAL = numbers.ERROR_INVALID
error_of errnos.EOVERFLOW = numbers.ERROR_OVERFLOW
error_of _ = numbers.ERROR_IO

-- how a request goes on by the mesh's reply to its command: the first refusal ends it
abbrev pub go_on : Asked → Reply → Going
go_on a (replies.Refused errno) = goings.Ends a (error_of errno)
go_on a (replies.Bytes bytes) = next_of (further a bytes)
go_on a _ = next_of (further a [])

-- Replies

-- that it failed, that it is done, and what comes before so many bytes that were read
abbrev pub failed : Bool → ℕ → ℕ → List ℕ
failed structured cookie error =
    if structured
    then error_chunk cookie error
    else simple_reply_bytes (record { error = error; cookie = cookie })

abbrev pub done : Bool → ℕ → List ℕ
done structured cookie =
    if structured then done_chunk cookie else simple_reply_bytes (record { error = 0; cookie = cookie })

abbrev pub read_head : Bool → ℕ → ℕ → ℕ → List ℕ
read_head structured cookie offset count =
    if structured
    then data_chunk cookie offset count
    else simple_reply_bytes (record { error = 0; cookie = cookie })

-- a read has exactly its bytes, or else an error
abbrev pub read_reply : Bool → Asked → List ℕ
read_reply structured a =
    if length a.got == a.len
    then read_head structured a.cookie a.offset a.len ++ a.got
    else failed structured a.cookie numbers.ERROR_IO

-- the reply of a request without an error
abbrev pub success_as : BioCmd → Bool → Asked → List ℕ
success_as cmds.Read structured a = read_reply structured a
success_as _ structured a = done structured a.cookie

-- the reply of a request that ended with this error, or without one
abbrev pub reply_to : Bool → Asked → ℕ → List ℕ
reply_to structured a error =
    if error == 0 then success_as a.cmd structured a else failed structured a.cookie error
