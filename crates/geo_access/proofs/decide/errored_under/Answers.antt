use Rattle.std.proofs.Common.{◌∙◌}
use Rattle.std.specs.Prelude.{fold}
use Rattle.std.specs.Option.{option_map_or}
use Rattle.geo_model.specs.Topology.{Consumer, consumers_of, providers_under}
use Rattle.geo_access.specs.Views.{lesser}
use Rattle.geo_access.proofs.Folding.{fold_begin, fold_more, fold_given}
use Rattle.geo_access.proofs.decide.errored_under.Goals as goal

-- one that is attached to nothing is passed over
pub loop-id-init : goal.loop-id-init
loop-id-init g c =
    fold_begin (λ (y : Consumer). y.number) (λ b (y : Consumer). option_map_or (lesser c.args.topo.now b) y.provider b)
    (consumers_of c.args.topo.now.topology c.args.geom) c.args.start
    ∙ fold_given (λ (y : Consumer). y.provider) (lesser c.args.topo.now)
    (consumers_of c.args.topo.now.topology c.args.geom) c.args.start

-- the provider of this consumer was compared with the best so far, if it is attached to one
pub loop-id-preserved : goal.loop-id-preserved
loop-id-preserved g c =
    rw c.number-from.ensures
    (fold_more (λ (y : Consumer). y.number) (λ b (y : Consumer). option_map_or (lesser c.args.topo.now b) y.provider b)
    (consumers_of c.args.topo.now.topology c.args.geom) _ _ _ c.loop-id.best c.lesser_at-best.result
    (fold (lesser c.args.topo.now) c.args.start (providers_under c.args.topo.now.topology c.args.geom))
    c.in-Some.ensures.next.left c.lesser_at-best.ensures c.loop-id.invariant)
