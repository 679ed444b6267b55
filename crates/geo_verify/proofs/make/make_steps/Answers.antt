use Rattle.std.proofs.Common.{arith, sym, ◌∙◌, subst, Bool, true}
use Rattle.geo_verify.specs.Forms.{steps_from}
use Rattle.geo_verify.specs.Making.{TriesLine}
use Rattle.geo_verify.proofs.Makings.{begins, ends, goes_on, stops, log_longer}
use Rattle.geo_verify.proofs.StepsRead.{all_left, left_behind}
use Rattle.geo_verify.proofs.make.make_steps.Goals as goal

-- no line is read yet
pub loop-line-init : goal.loop-line-init
loop-line-init c = record {
  left = all_left (steps_from c.args.place);
  going = λ report form. begins c.args.mesh.now c.args.place report form.0 c.requires.empty form.1;
  history = c.requires.history;
  few = rw c.requires.empty (omega arith);
  behind = omega arith;
}

-- the steps before were made, and the mark stands behind them
pub returns-then-eq-clause-made : goal.returns-then-eq-clause-made
returns-then-eq-clause-made c = record {
  read = c.loop-line.invariant.left;
  made = λ report form.
      ends c.args.mesh.now c.loop-line.mesh c.args.place c.loop-line.at.line c.loop-line.at.text.now
      c.in-Some.line.now c.in-Some.behind.now (c.loop-line.invariant.going report form) c.in-Some.ensures.parts
      (sym c.eq.ensures ∙ c.if-eq.true);
  behind = c.loop-line.invariant.behind;
}

-- the steps before were made, and the one of this line isn't enabled
pub returns-then-not-was-clause-made : goal.returns-then-not-was-clause-made
returns-then-not-was-clause-made c = record {
  read = c.loop-line.invariant.left;
  made = λ report form.
      stops c.args.mesh.now c.loop-line.mesh c.try_line.new.mesh c.args.place c.loop-line.at.line
      c.loop-line.at.text.now c.in-Some.line.now c.in-Some.behind.now (c.loop-line.invariant.going report form)
      c.in-Some.ensures.parts (sym c.eq.ensures ∙ c.if-eq.false)
      (subst (λ (b : Bool). TriesLine b c.loop-line.mesh c.try_line.new.mesh c.in-Some.line.now) c.if-not-was.true
      c.in_ok-was.ensures.made);
  behind = c.loop-line.invariant.behind;
}

-- the step of this line was made: the log has one entry more, and at least one byte fewer is left
pub loop-line-preserved : goal.loop-line-preserved
loop-line-preserved c =
    let tries : TriesLine true c.loop-line.mesh c.try_line.new.mesh c.in-Some.line.now =
    subst (λ (b : Bool). TriesLine b c.loop-line.mesh c.try_line.new.mesh c.in-Some.line.now) c.if-not-was.false
    c.in_ok-was.ensures.made in
    let longer = log_longer c.loop-line.mesh c.try_line.new.mesh c.in-Some.line.now tries in
    let other = sym c.eq.ensures ∙ c.if-eq.false in
    record {
      left = left_behind (steps_from c.args.place) c.loop-line.at.line c.loop-line.at.text.now c.in-Some.line.now
          c.in-Some.behind.now tries.0 c.loop-line.invariant.left c.in-Some.ensures.parts other tries.1.0;
      going = λ report form.
          goes_on c.args.mesh.now c.loop-line.mesh c.try_line.new.mesh c.args.place c.loop-line.at.line
          c.loop-line.at.text.now c.in-Some.line.now c.in-Some.behind.now (c.loop-line.invariant.going report form)
          c.in-Some.ensures.parts other tries;
      history = c.in_ok-was.ensures.history;
      few = omega (arith, longer, c.loop-line.invariant.few, c.in-Some.ensures.shorter);
      behind = omega (arith, c.loop-line.invariant.behind, c.in-Some.ensures.shorter);
    }
