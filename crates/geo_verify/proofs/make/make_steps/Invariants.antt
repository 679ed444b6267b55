-- How the rest is read tells how all is; if all is of the form, the steps of the lines so far were made. The log has no
-- more entries than these lines have bytes.
use Rattle.std.proofs.Common.{List, ℕ, length, ◌+◌, ◌≤◌}
use Rattle.geo_core.specs.Mesh.{IsHistory}
use Rattle.geo_verify.specs.Forms.{IsBehind, IsLeft, IsOfForm, steps_from}
use Rattle.geo_verify.proofs.Makings.{Going}
use Rattle.geo_verify.proofs.make.make_steps.Given as goal

abbrev pub invariant-loop-line : goal.invariant-loop-line
invariant-loop-line l = record {
  left : IsLeft (steps_from l.fn.place) (steps_from l.at);
  going : (report : List ℕ) → IsOfForm l.fn.place report
      → Going l.fn.mesh l.mesh l.fn.place l.at.line l.at.text.now;
  history : IsHistory l.mesh;
  few : length l.mesh.log + length l.at.text.now ≤ length l.fn.place.text.now;
  behind : IsBehind l.at l.fn.place;
}

abbrev pub decreases-loop-line : goal.decreases-loop-line
decreases-loop-line l = length l.at.text.now
