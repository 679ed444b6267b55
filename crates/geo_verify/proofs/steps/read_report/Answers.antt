use Rattle.std.proofs.Common.{arith, sym, ◌∙◌}
use Rattle.geo_verify.specs.Forms.{steps_from}
use Rattle.geo_verify.proofs.StepsRead.{report_behind, left_behind}
use Rattle.geo_verify.proofs.steps.read_report.Goals as goal

-- all lines before the mark are of steps, so the report is what stands behind
pub returns-then-eq : goal.returns-then-eq
returns-then-eq c =
    report_behind (steps_from c.args.place) c.loop-line.number c.loop-line.rest.now c.in-Some.line.now
    c.in-Some.behind.now c.loop-line.invariant.left c.in-Some.ensures.parts (sym c.eq.ensures ∙ c.if-eq.true)

-- the line is of a step, so the others are read from behind it
pub loop-line-preserved : goal.loop-line-preserved
loop-line-preserved c = record {
  left = left_behind (steps_from c.args.place) c.loop-line.number c.loop-line.rest.now c.in-Some.line.now
      c.in-Some.behind.now c.in_ok-judge_step.ensures.0 c.loop-line.invariant.left c.in-Some.ensures.parts
      (sym c.eq.ensures ∙ c.if-eq.false) c.in_ok-judge_step.ensures.1;
  room = omega (arith, c.loop-line.invariant.room, c.in-Some.ensures.shorter);
}
