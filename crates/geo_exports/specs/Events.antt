-- What is due, as it is told to C.
use Rattle.std.specs.Prelude.{ℕ, List, [], length}
use Rattle.geo_model.specs.declared.step.Reply.{Reply}
use Rattle.geo_model.specs.declared.step.Reply.TheVariants as replies
use Rattle.geo_tags.specs.declared.due.Due.{Due}
use Rattle.geo_tags.specs.declared.due.Due.TheVariants as dues
use Rattle.geo_exports.specs.declared.event.TheConstants.{ASK, CHANGED, IDLE, MOVED, REPLY}
use Rattle.geo_exports.specs.declared.event.TzbEvent.{TzbEvent}
use Rattle.geo_exports.specs.Numbers.{op_number, reply_error}

-- the bytes of a reply
abbrev pub reply_bytes : Reply → List ℕ
reply_bytes (replies.Bytes bytes) = bytes
reply_bytes _ = []

-- the bytes that a disk is to write, or that a request read
abbrev pub bytes_of : Due → List ℕ
bytes_of (dues.Ask disk bio request) = request.bytes
bytes_of (dues.Reply token reply) = reply_bytes reply
bytes_of _ = []

-- an event of a kind, and nothing else
abbrev pub plain : ℕ → TzbEvent
plain kind = record {
  kind = kind;
  op = 0;
  disk = 0;
  count = 0;
  bio = 0;
  first = 0;
  token = 0;
  len = 0;
  error = 0;
  spare = 0;
  generation = 0;
}

abbrev pub event_of : Due → TzbEvent
event_of (dues.Ask disk bio request) = record (plain ASK) {
  op = op_number request.cmd;
  disk = disk;
  count = request.count;
  bio = bio;
  first = request.first;
  len = length request.bytes;
}
event_of (dues.Reply token reply) = record (plain REPLY) {
  token = token;
  len = length (reply_bytes reply);
  error = reply_error reply;
}
event_of dues.Moved = plain MOVED
event_of (dues.Changed generation) = record (plain CHANGED) { generation = generation }
event_of dues.Idle = plain IDLE
