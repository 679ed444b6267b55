use Rattle.geo_model.specs.Topology.{consumers_of}
use Rattle.geo_tests_life.proofs.Walks.{unmarked_begin, unmarked_step, unmarked_end}
use Rattle.geo_tests_life.proofs.life.are_handles_unmarked.Goals as goal

pub loop-id-init : goal.loop-id-init
loop-id-init c = λ all. unmarked_begin (consumers_of c.args.topo.now.topology 1) all

pub loop-id-preserved : goal.loop-id-preserved
loop-id-preserved c =
    rw c.number-from.ensures (λ rest.
    c.loop-id.invariant
    (unmarked_step (consumers_of c.args.topo.now.topology 1) c.loop-id.from _ _
    (rw c.new.ensures at c.in-Some.ensures.next.left)
    c.if-cons.false rest))

pub returns : goal.returns
returns c = λ e.
    c.loop-id.invariant
    (unmarked_end (consumers_of c.args.topo.now.topology 1) c.loop-id.from
    (rw c.new.ensures at c.in_default.ensures.next))
