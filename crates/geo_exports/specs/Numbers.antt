-- Errors and commands of requests as the numbers that C has of them.
use Rattle.std.specs.Prelude.{ℕ, Option, Some, None, Result, Ok, Err}
use Rattle.std.specs.Prelude.{ℤ}
use Rattle.geo_base.specs.declared.errno.Errno.{Errno}
use Rattle.geo_base.specs.declared.errno.Errno.TheVariants as errnos
use Rattle.geo_base.specs.declared.request.BioCmd.{BioCmd}
use Rattle.geo_base.specs.declared.request.BioCmd.TheVariants as cmds
use Rattle.geo_model.specs.declared.step.Reply.{Reply}
use Rattle.geo_model.specs.declared.step.Reply.TheVariants as replies
use Rattle.geo_session.specs.declared.refusal.SessionRefusal.{SessionRefusal}
use Rattle.geo_session.specs.declared.refusal.SessionRefusal.TheVariants as refusals
use Rattle.geo_exports.specs.declared.codes.TheConstants.{NO_MEMORY, OK, REPLIED, UNFIT}

abbrev pub op_number : BioCmd → ℕ
op_number cmds.Read = 1
op_number cmds.Write = 2
op_number cmds.Delete = 3
op_number cmds.Flush = 4

abbrev pub error_number : Errno → ℕ
error_number errnos.ENOENT = 1
error_number errnos.EEXIST = 2
error_number errnos.EBADF = 3
error_number errnos.ENXIO = 4
error_number errnos.EPERM = 5
error_number errnos.EOVERFLOW = 6
error_number errnos.EBUSY = 7
error_number errnos.EINVAL = 8
error_number errnos.EIO = 9
error_number errnos.ELOOP = 10
error_number errnos.EDEEP = 11

-- 0 where it is well
abbrev pub reply_error : Reply → ℕ
reply_error (replies.Refused errno) = error_number errno
reply_error _ = 0

-- what is told of a command that was given
abbrev pub given_code : Result (Option Reply) SessionRefusal → ℤ
given_code (Ok None) = OK
given_code (Ok (Some reply)) = REPLIED
given_code (Err (refusals.NotEnabled found)) = UNFIT
given_code (Err refusals.NoMemory) = NO_MEMORY

-- the error of one that was replied to at once, else 0
abbrev pub given_error : Result (Option Reply) SessionRefusal → ℕ
given_error (Ok (Some reply)) = reply_error reply
given_error _ = 0
