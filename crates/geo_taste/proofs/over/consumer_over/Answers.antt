use Rattle.std.proofs.Common.{sym}
use Rattle.geo_access.proofs.Walking.{consumers_end, consumer_next, consumer_some}
use Rattle.geo_taste.specs.Over.{over}
use Rattle.geo_taste.proofs.Asking.{looked_at}
use Rattle.geo_taste.proofs.over.consumer_over.Goals as goal

pub returns-in_err-id-clause-next : goal.returns-in_err-id-clause-next
returns-in_err-id-clause-next c =
    rw c.from_residual.ensures (consumers_end (over c.args.topo.now.topology c.args.kind c.args.prov) c.args.from
    (sym c.in_err-id.ensures.first))

-- the number is that of a consumer that was met on the walk, so one stands there
pub returns-in_err-cons-clause-next : goal.returns-in_err-cons-clause-next
returns-in_err-cons-clause-next c =
    absurd
    (consumer_some c.args.topo.now.topology c.consumer.ensures.sound (looked_at c.args.kind c.args.prov)
    c.args.from c.in_ok-id.id
    (sym c.in_ok-id.ensures.first) c.in_err-cons.ensures.consumer)

pub returns-clause-next : goal.returns-clause-next
returns-clause-next c =
    consumer_next c.args.topo.now.topology c.consumer.ensures.sound (looked_at c.args.kind c.args.prov)
    c.args.from c.in_ok-id.id c.in_ok-cons.cons.now
    (sym c.in_ok-id.ensures.first) c.in_ok-cons.ensures.consumer
