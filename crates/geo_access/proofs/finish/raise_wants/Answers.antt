use Rattle.std.proofs.Common.{refl}
use Rattle.geo_model.specs.Topology.{Consumer, consumers_of}
use Rattle.geo_access.specs.Views.{raise_want}
use Rattle.geo_access.proofs.Folding.{fold_begin}
use Rattle.geo_access.proofs.finish.raise_wants.Goals as goal

pub loop-id-init : goal.loop-id-init
loop-id-init g c = record {
  graph = refl;
  raised = fold_begin (λ (y : Consumer). y.number) (raise_want c.args.way c.args.gain)
      (consumers_of c.args.topo.now.topology c.args.geom) c.args.topo.now;
}
