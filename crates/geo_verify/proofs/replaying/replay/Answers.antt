use Rattle.std.proofs.Common.{arith}
use Rattle.std.specs.Prelude.{◌+◌}
use Rattle.geo_verify.proofs.TracesRead.{text_both, text_faulty}
use Rattle.geo_verify.proofs.replaying.replay.Goals as goal

-- the text is the script and what stands behind it, whose lines are counted on from those of the script
pub returns-in-Ok : goal.returns-in-Ok
returns-in-Ok c =
    let count = rw c.cut.ensures.script at c.line_count-line.ensures.count in
    text_both c.args.text.now c.in-Ok.plan c.replay_behind.result (c.line_count-line.result + 1)
    (rw c.cut.ensures.script at c.in-Ok.ensures.answer) (omega (arith, count))
    (rw c.cut.ensures.marked at c.replay_behind.ensures)

-- what stands before the first mark isn't a script, whatever stands behind
pub returns-in-Err-Fault : goal.returns-in-Err-Fault
returns-in-Err-Fault c =
    let fault = rw c.in-Err-Fault.field-0-is at c.in-Err-Fault.ensures.answer in
    rw c.in-Err-Fault.field-0-is (text_faulty c.args.text.now _ (rw c.cut.ensures.script at fault))
