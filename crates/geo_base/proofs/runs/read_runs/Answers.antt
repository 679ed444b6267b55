use Rattle.std.proofs.Common.{arith, ℕ, ◌≡◌, List, [], Some, sym, ◌∙◌, ap, subst}
use Rattle.geo_base.specs.Runs.{IsRuns}
use Rattle.geo_base.specs.declared.runs.Place.TheVariants.{Start}
use Rattle.geo_base.proofs.RunsReach.{Reached, reached_none, reached-runs}
use Rattle.geo_base.proofs.RunsEnds.{at_place}
use Rattle.geo_base.proofs.RunsFault.{fault-at, fault-end, next-reached, next-ran, all-reached, all-ran}
use Rattle.geo_base.proofs.runs.read_runs.Goals as goal
use Rattle.geo_base.proofs.runs.read_runs.Goals.{in_default-via-in-Times+else-times-ge1, in_default-via-in_default}

-- the bytes up to here begin a text of runs, and no text of runs goes on with this one
pub returns-in-None : goal.returns-in-None
returns-in-None c =
    fault-at c.args.text.now c.loop-at.bytes.items c.loop-at.place c.loop-at.at (omega arith)
    c.loop-at.invariant.reached c.loop-at.invariant.ran (rw c.in-None.is at c.in_ok-next.ensures)

-- the reader went on, so the bytes up to this one begin a text of runs too
pub loop-at-preserved : goal.loop-at-preserved
loop-at-preserved c =
    let goes = rw c.in-Some.is at c.in_ok-next.ensures in
    record {
      reached = next-reached c.args.text.now c.loop-at.bytes.items c.read_on.new.bytes.items c.loop-at.place
          c.in-Some.next c.loop-at.at (omega arith) c.loop-at.invariant.reached goes;
      ran = next-ran c.args.text.now c.loop-at.bytes.items c.read_on.new.bytes.items c.loop-at.place c.in-Some.next
          c.loop-at.at (omega arith) c.loop-at.invariant.ran goes;
    }

-- the text ends behind a number that isn't 0, so its last run stands
pub returns-in_ok-push_bytes-in-Times : goal.returns-in_ok-push_bytes-in-Times
returns-in_ok-push_bytes-in-Times c =
    let here = all-reached c.args.text.now c.loop-at.bytes.items c.loop-at.place c.loop-at.at c.loop-at-test.false
    c.loop-at.invariant.reached in
    let at_times = subst (λ (p : _). Reached p c.loop-at.bytes.items c.args.text.now) c.in-Times.is here in
    subst (IsRuns c.args.text.now) (sym (c.from_vec.ensures ∙ c.in_ok-push_bytes-in-Times.ensures))
    (reached-runs c.in-Times.byte c.in-Times.times c.loop-at.bytes.items c.args.text.now
    c.if-times-ge1.true at_times)

-- the whole text begins one of runs, but ends in the middle of a run: elsewhere than behind a number that isn't 0
pub returns-in_default : goal.returns-in_default
returns-in_default c =
    fault-end c.args.text.now c.loop-at.bytes.items c.loop-at.place
    (all-reached c.args.text.now c.loop-at.bytes.items c.loop-at.place c.loop-at.at c.loop-at-test.false
    c.loop-at.invariant.reached)
    (all-ran c.args.text.now c.loop-at.bytes.items c.loop-at.place c.loop-at.at c.loop-at-test.false
    c.loop-at.invariant.ran)
    (elim c.in_default.branch [
      | in_default-via-in-Times+else-times-ge1 w ↦
          λ v n some same. let times : w.in-Times.times ≡ n = cc in absurd (omega arith)
      | in_default-via-in_default w ↦ λ v n _ same. w.in_default.not-Times v n same
    ])

-- nothing was read, and the reader stands before the first run
pub loop-at-init : goal.loop-at-init
loop-at-init c = record {
  reached = subst (λ (b : List ℕ). Reached Start b []) (sym c.new-bytes.ensures.items) reached_none;
  ran = ap (λ b. Some (at_place Start b)) (sym c.new-bytes.ensures.items);
}
