use Rattle.geo_moves.proofs.Walking.{next_geom}
use Rattle.geo_moves.proofs.geoms.geom_from.Goals as goal

pub returns : goal.returns
returns c =
    next_geom c.args.topo.now.topology c.next_geom.ensures.sound c.args.from c.next_geom.result
    c.next_geom.ensures.first
