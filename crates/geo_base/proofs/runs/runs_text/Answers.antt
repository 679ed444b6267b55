use Rattle.std.proofs.Common.{arith, ◌≡◌, ◌==◌, ◌∷◌, ◌++◌, [], get_or, false, ◌∙◌, ap}
use Rattle.std.proofs.lemmas.Bool.Decides.{nat_tests}
use Rattle.geo_base.proofs.RunsLemmas.{text_first, text_on, text_next}
use Rattle.geo_base.proofs.runs.runs_text.Goals as goal
use Rattle.geo_base.proofs.runs.runs_text.Goals.{then-next-byte, else-next-byte+in_ok-push_run+in_ok-push}

-- no byte is counted, so the whole text is still that of all bytes
pub loop-next-init : goal.loop-next-init
loop-next-init c = record {
  counted = omega arith;
  whole = rw c.new-text.ensures.items (text_first c.args.bytes.now c.requires.some_byte);
}

-- an equal byte makes the run longer; another one ends it in the text and begins a run of its own
pub loop-next-preserved : goal.loop-next-preserved
loop-next-preserved c =
    elim c.if-next-byte.branch [
      | then-next-byte w ↦ record {
        counted = omega arith;
        whole = rw (w.text-is, w.byte-is, w.times-is)
            (text_on c.args.bytes.now c.loop-next.next-index c.loop-next.byte c.loop-next.times
            c.loop-next.text.items _ (omega arith) w.if-next-byte.true c.loop-next.invariant.whole);
      }
      | else-next-byte+in_ok-push_run+in_ok-push w ↦ record {
        counted = omega arith;
        whole =
            let other : (get_or c.args.bytes.now c.loop-next.next-index 0 == c.loop-next.byte) ≡ false =
            grind (arith, nat_tests, w.if-next-byte.false) in
            rw (w.text-is, w.byte-is, w.times-is)
            (text_next c.args.bytes.now c.loop-next.next-index c.loop-next.byte c.loop-next.times
            c.loop-next.text.items _ _ (omega arith) other (w.in_ok-push.ensures.items
            ∙ ap (λ l. l ++ 32 ∷ []) w.in_ok-push_run.ensures) c.loop-next.invariant.whole);
      }
    ]
