use Rattle.std.proofs.Common.{◌+◌, refl, ap}
use Rattle.geo_model.specs.Topology.{Consumer, consumers_of}
use Rattle.geo_laws_graph.specs.LookupLaws.{WalksMeetAll}
use Rattle.geo_laws_graph.proofs.Walks.{walks-meet}
use Rattle.std.specs.Prelude.{length}
use Rattle.geo_access.specs.Views.{hand}
use Rattle.geo_access.proofs.Folding.{fold_begin}
use Rattle.geo_access.proofs.spread.hand_down.Goals as goal

pub loop-id-init : goal.loop-id-init
loop-id-init g c = record {
  graph = refl;
  handed = fold_begin (λ (y : Consumer). y.number) (hand c.args.gain)
      (consumers_of c.args.topo.now.topology c.args.geom) c.args.topo.now;
  steps = ap (λ ys. c.args.steps.now + length ys)
      (WalksMeetAll.begin walks-meet (λ (y : Consumer). y.number) (consumers_of c.args.topo.now.topology c.args.geom));
}
