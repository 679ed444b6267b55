use Rattle.std.proofs.Common.{arith, ◌≡◌, ◌==◌, ◌++◌, get_or, false, ap}
use Rattle.std.proofs.lemmas.Bool.Decides.{nat_tests}
use Rattle.geo_base.proofs.RunsLemmas.{text_first, text_on, text_next}
use Rattle.geo_report.proofs.runs.add_some_runs.Goals as goal
use Rattle.geo_report.proofs.runs.add_some_runs.Goals.{then-next-byte, else-next-byte+in_ok-add_run_before}

-- the first byte begins a run, in which none was counted yet
pub loop-next-init : goal.loop-next-init
loop-next-init c = record {
  counted = omega arith;
  whole = ap (λ l. c.args.text.now ++ l) (text_first c.args.bytes.now c.requires);
}

-- the byte makes the run longer, or the run is written and it begins another
pub loop-next-preserved : goal.loop-next-preserved
loop-next-preserved c =
    elim c.if-next-byte.branch [
      | then-next-byte w ↦ record {
        counted = omega arith;
        whole = rw (w.text-is, w.byte-is, w.times-is)
            (text_on c.args.bytes.now c.loop-next.next-index c.loop-next.byte c.loop-next.times c.loop-next.text _
            (omega arith) w.if-next-byte.true c.loop-next.invariant.whole);
      }
      | else-next-byte+in_ok-add_run_before w ↦ record {
        counted = omega arith;
        whole =
            let other : (get_or c.args.bytes.now c.loop-next.next-index 0 == c.loop-next.byte) ≡ false =
            grind (arith, nat_tests, w.if-next-byte.false) in
            rw (w.text-is, w.byte-is, w.times-is)
            (text_next c.args.bytes.now c.loop-next.next-index c.loop-next.byte c.loop-next.times c.loop-next.text _ _
            (omega arith) other w.in_ok-add_run_before.ensures c.loop-next.invariant.whole);
      }
    ]
