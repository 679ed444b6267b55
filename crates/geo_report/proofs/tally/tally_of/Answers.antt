use Rattle.std.proofs.Common.{arith}
use Rattle.geo_report.proofs.TallyLemmas.{next_tally, next_bytes, has_room}
use Rattle.geo_report.proofs.tally.tally_of.Goals as goal

-- there are at most as many replies as lines, so no count is at its end
pub note_answer-requires : goal.note_answer-requires
note_answer-requires c = record {
  room = has_room c.args.log.now c.args.commands.now c.loop-command.command-index c.loop-command.tally (omega arith)
      (omega arith) c.loop-command.invariant.tally c.loop-command.invariant.bytes;
}

-- the reply to one line more was counted, and its bytes are fewer than 2^64
pub loop-command-preserved : goal.loop-command-preserved
loop-command-preserved c = record {
  tally = next_tally c.args.log.now c.args.commands.now c.loop-command.command-index c.command-item.result _
      c.loop-command.tally c.note_answer.new.self (omega arith) c.command-item.is c.find_reply.ensures
      c.note_answer.ensures.noted c.loop-command.invariant.tally;
  bytes = next_bytes c.loop-command.command-index _ c.loop-command.tally c.note_answer.new.self
      c.note_answer.ensures.noted c.note_answer.ensures.length c.loop-command.invariant.bytes;
}
