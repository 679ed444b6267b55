use Rattle.std.proofs.Common.{sym}
use Rattle.geo_access.proofs.Walking.{consumers_end}
use Rattle.geo_life.specs.Life.{consumers_above}
use Rattle.geo_life.proofs.Uppers.{above_next, above_some}
use Rattle.geo_moves.proofs.above.consumer_above.Goals as goal

pub returns-in_err-id-clause-next : goal.returns-in_err-id-clause-next
returns-in_err-id-clause-next c =
    rw c.from_residual.ensures (consumers_end (consumers_above c.args.topo.now.topology c.args.prov) c.args.from
    (sym c.in_err-id.ensures.first))

-- the consumer that was met is one of the graph, so it can't be missing there
pub returns-in_err-cons-clause-next : goal.returns-in_err-cons-clause-next
returns-in_err-cons-clause-next c =
    absurd
    (above_some c.args.topo.now.topology c.args.prov c.consumer.ensures.sound c.args.from c.in_ok-id.id
    (sym c.in_ok-id.ensures.first) c.in_err-cons.ensures.consumer)

-- what is met is the first consumer from the number on that isn't DEV's, as the graph has it
pub returns-clause-next : goal.returns-clause-next
returns-clause-next c =
    above_next c.args.topo.now.topology c.args.prov c.consumer.ensures.sound c.args.from c.in_ok-id.id
    (sym c.in_ok-id.ensures.first) c.in_ok-cons.cons.now c.in_ok-cons.ensures.consumer
