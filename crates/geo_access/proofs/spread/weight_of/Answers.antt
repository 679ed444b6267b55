use Rattle.std.proofs.Common.{true}
use Rattle.geo_model.specs.Topology.{Provider, providers_of}
use Rattle.geo_model.specs.Demand.{no_counts}
use Rattle.geo_access.specs.Views.{weigh}
use Rattle.geo_access.proofs.Folding.{fold_begin}
use Rattle.geo_access.proofs.spread.weight_of.Goals as goal

pub loop-id-init : goal.loop-id-init
loop-id-init g c =
    fold_begin (λ (y : Provider). y.number) (weigh c.args.topo.now c.args.way)
    (providers_of c.args.topo.now.topology c.args.geom)
    (record { sum = no_counts; quiet = true })
