-- The lines so far were counted, and no more than bytes were passed.
use Rattle.std.proofs.Common.{length, ◌+◌, ◌≡◌, ◌≤◌}
use Rattle.geo_model.specs.Script.{lines_of}
use Rattle.geo_verify.proofs.cut.line_count.Given as goal

abbrev pub invariant-loop-rest : goal.invariant-loop-rest
invariant-loop-rest l = record {
  count : l.count + length (lines_of l.rest) ≡ length (lines_of l.text);
  room : l.count + length l.rest ≤ length l.text;
}

abbrev pub decreases-loop-rest : goal.decreases-loop-rest
decreases-loop-rest l = length l.rest
