use Rattle.std.proofs.Common.{arith}
use Rattle.geo_verify.proofs.WrittenOut.{all_fit}
use Rattle.geo_verify.proofs.write.add_lines.Goals as goal

-- each line so far can be read again, if its step delivers few bytes, and all were written
pub returns-clause-fits : goal.returns-clause-fits
returns-clause-fits c = λ few.
    all_fit c.args.entries.now c.loop-entry.entry-index (omega arith) c.loop-entry.invariant.1 few
