use Rattle.std.proofs.Common.{refl}
use Rattle.geo_model.specs.Topology.{Provider, providers_of}
use Rattle.std.specs.Prelude.{fold}
use Rattle.geo_access.specs.Views.{finish_provider}
use Rattle.geo_access.proofs.Folding.{fold_begin, fold_end}
use Rattle.geo_access.proofs.finish.finish_providers.Goals as goal

pub loop-id-init : goal.loop-id-init
loop-id-init g c = record {
  graph = refl;
  finished = fold_begin (λ (y : Provider). y.number) (finish_provider c.args.keep)
      (providers_of c.args.topo.now.topology c.args.geom) c.args.topo.now;
}

pub returns-clause-finished : goal.returns-clause-finished
returns-clause-finished g c =
    fold_end (λ (y : Provider). y.number) (finish_provider c.args.keep)
    (providers_of c.loop-id.topo.topology c.args.geom) c.loop-id.from c.loop-id.topo
    (fold (finish_provider c.args.keep) c.args.topo.now (providers_of c.args.topo.now.topology c.args.geom))
    c.in_default.ensures.next c.loop-id.invariant.finished
