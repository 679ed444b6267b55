use Rattle.geo_model.specs.Topology.{Provider, providers_of}
use Rattle.geo_model.specs.Demand.{no_counts}
use Rattle.geo_access.specs.Join.{with_have_of}
use Rattle.geo_access.proofs.Folding.{fold_begin}
use Rattle.geo_access.proofs.joins.counts_of.Goals as goal

pub loop-id-init : goal.loop-id-init
loop-id-init g c =
    fold_begin (λ (y : Provider). y.number) (with_have_of c.args.topo.now)
    (providers_of c.args.topo.now.topology c.args.geom) no_counts
