use Rattle.std.specs.Prelude.{length}
use Rattle.std.proofs.Common.{ap, arith}
use Rattle.geo_model.specs.Topology.{Consumer, consumers_of}
use Rattle.geo_laws_graph.proofs.Walks.{walk-begin}
use Rattle.geo_moves.proofs.growths.is_full.Goals as goal

pub loop-id-init : goal.loop-id-init
loop-id-init c =
    let all = ap length (walk-begin (λ (y : Consumer). y.number) (consumers_of c.args.topo.now.topology c.args.geom)) in
    (omega (arith, all), omega arith)
