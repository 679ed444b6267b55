use Rattle.std.proofs.Common.{sym}
use Rattle.geo_access.proofs.Walking.{consumers_end}
use Rattle.geo_life.specs.Life.{consumers_above}
use Rattle.geo_life.proofs.Uppers.{above_next, above_some}
use Rattle.geo_life.proofs.above.consumer_above.Goals as goal

pub returns-in_err-id-clause-next : goal.returns-in_err-id-clause-next
returns-in_err-id-clause-next g c =
    rw c.from_residual.ensures (consumers_end (consumers_above c.args.topo.now.topology c.args.prov) c.args.from
    (sym c.in_err-id.ensures.first))

-- the number is that of a consumer that was met on the walk, so one stands there
pub returns-in_err-cons-clause-next : goal.returns-in_err-cons-clause-next
returns-in_err-cons-clause-next g c =
    absurd
    (above_some c.args.topo.now.topology c.args.prov c.consumer.ensures.sound c.args.from c.in_ok-id.id
    (sym c.in_ok-id.ensures.first) c.in_err-cons.ensures.consumer)

pub returns-clause-next : goal.returns-clause-next
returns-clause-next g c =
    above_next c.args.topo.now.topology c.args.prov c.consumer.ensures.sound c.args.from c.in_ok-id.id
    (sym c.in_ok-id.ensures.first) c.in_ok-cons.cons.now c.in_ok-cons.ensures.consumer
