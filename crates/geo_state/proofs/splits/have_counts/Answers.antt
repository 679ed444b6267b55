use Rattle.std.proofs.Common.{ℕ, ◌<◌, ◌^◌, arith, IfSome}
use Rattle.geo_slots.specs.Slots.{value_at}
use Rattle.geo_state.proofs.Moves.{all_step, all_end}
use Rattle.geo_state.proofs.splits.have_counts.Goals as goal

pub loop-target-init : goal.loop-target-init
loop-target-init c = λ all. all

-- this consumer has a count to spare, so what is wanted of the others is wanted of all
pub loop-target-preserved : goal.loop-target-preserved
loop-target-preserved c =
    all_step (λ (z : ℕ × ℕ). IfSome (value_at c.args.topo.now.active z.0) (λ n. n < 2 ^ 62)) c.args.targets.now
    c.loop-target.target-index c.target-item.result (omega arith) c.target-item.is
    (c.has_count.ensures.few c.if-not-has_count.false) c.loop-target.invariant

pub returns-clause-counts : goal.returns-clause-counts
returns-clause-counts c =
    λ fits. all_end (λ (z : ℕ × ℕ). IfSome (value_at c.args.topo.now.active z.0) (λ n. n < 2 ^ 62)) c.args.targets.now
    c.loop-target.target-index c.loop-target-test.false c.loop-target.invariant
