-- What is counted of some replies.
use Rattle.std.specs.Prelude.{◌≡◌, ℕ, ◌+◌, ◌*◌, ◌≤◌, ◌^◌, List, ◌++◌, Option, Some, None, length, count_by, sum_by, filter_map, flat_map, slice_index, slice_set, codes}
use Rattle.geo_base.specs.Errno.{errno_text}
use Rattle.geo_base.specs.declared.errno.Errno.{Errno}
use Rattle.geo_model.specs.declared.command.LineCommand.{LineCommand}
use Rattle.geo_model.specs.declared.step.Entry.{Entry}
use Rattle.geo_model.specs.declared.step.Reply.{Reply}
use Rattle.geo_model.specs.declared.step.Reply.TheVariants as replies
use Rattle.geo_model.specs.Report.{errno_number, is_ok_reply, is_refusal, reply_len, reply_from, count_line, all_errnos}
use Rattle.geo_report.specs.declared.tally.Tally.{Tally}

-- the replies to these lines, in order
abbrev pub replies_of : List Entry → List LineCommand → List Reply
replies_of log commands = filter_map (λ c. reply_from log c.line) commands

-- the numbers are those of these replies
pub record IsTally (given : List Reply) (t : Tally) : Type 0 where
  pub ok : t.ok ≡ count_by is_ok_reply given
  pub kinds : length t.errors ≡ 11
  pub errors : (e : Errno) → slice_index t.errors (errno_number e) ≡ count_by (is_refusal e) given
  pub bytes : t.bytes ≡ sum_by reply_len given

-- no number is greater than so many replies bring about
pub record IsBelow (n : ℕ) (t : Tally) : Type 0 where
  pub ok : t.ok ≤ n
  pub errors : (e : Errno) → slice_index t.errors (errno_number e) ≤ n
  pub bytes : t.bytes ≤ n * 2 ^ 64

-- one more at a place
abbrev pub one_more_at : List ℕ → ℕ → List ℕ
one_more_at numbers k = slice_set numbers k (slice_index numbers k + 1)

-- the numbers with one reply more
abbrev pub with_reply : Tally → Reply → Tally
with_reply t replies.Ok = record t { ok = t.ok + 1 }
with_reply t (replies.Bytes bytes) = record t { ok = t.ok + 1; bytes = t.bytes + length bytes }
with_reply t (replies.Refused e) = record t { errors = one_more_at t.errors (errno_number e) }
with_reply t (replies.Listing lines) = record t { ok = t.ok + 1 }

-- the numbers with the reply to one line more
abbrev pub noted_answer : Tally → Option Reply → Tally
noted_answer t None = t
noted_answer t (Some reply) = with_reply t reply

-- the line of an error
abbrev pub error_line : Tally → Errno → List ℕ
error_line t e = count_line (errno_text e) (slice_index t.errors (errno_number e))

-- the lines of all numbers
unfoldable pub tally_text : Tally → List ℕ
tally_text t =
    count_line (codes "ok") t.ok ++ flat_map (error_line t) all_errnos ++ count_line (codes "bytes") t.bytes
