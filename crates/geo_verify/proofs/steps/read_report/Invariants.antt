-- The lines so far are of steps, so how the rest is read tells how all is.
use Rattle.std.proofs.Common.{length, ◌+◌, ◌≤◌}
use Rattle.geo_headline.specs.Traces.{read_steps, parts_of}
use Rattle.geo_verify.specs.Forms.{IsLeft, steps_from}
use Rattle.geo_verify.proofs.steps.read_report.Given as goal

abbrev pub invariant-loop-line : goal.invariant-loop-line
invariant-loop-line l = record {
  left : IsLeft (steps_from l.fn.place) (read_steps l.number (parts_of l.rest));
  room : l.number + length l.rest ≤ l.fn.place.line + length l.fn.place.text.now;
}

abbrev pub decreases-loop-line : goal.decreases-loop-line
decreases-loop-line l = length l.rest
