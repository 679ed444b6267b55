use Rattle.geo_access.proofs.Walking.{first_lives}
use Rattle.geo_access.proofs.order.take.Goals as goal

pub geom_scratch-requires : goal.geom_scratch-requires
geom_scratch-requires g c =
    rw c.new-geom.ensures (first_lives c.args.topo.now c.args.order.now c.if-order-eq0.false c.requires)

pub returns-clause-lives : goal.returns-clause-lives
returns-clause-lives g c =
    rw c.new-geom.ensures (first_lives c.args.topo.now c.args.order.now c.if-order-eq0.false c.requires)
