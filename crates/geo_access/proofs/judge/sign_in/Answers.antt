use Rattle.std.proofs.Common.{sym, ◌∙◌}
use Rattle.geo_base.proofs.Options.{none_of}
use Rattle.geo_model.specs.Topology.{Consumer, consumers_of}
use Rattle.geo_access.specs.Views.{sign_at, sign_in}
use Rattle.geo_access.proofs.Folding.{some_begin, some_more}
use Rattle.geo_access.proofs.judge.sign_in.Goals as goal

pub loop-id-init : goal.loop-id-init
loop-id-init g c =
    some_begin (λ (y : Consumer). y.number) (sign_at c.args.topo.now)
    (consumers_of c.args.topo.now.topology c.args.geom)

-- this consumer is no sign, so the first lies among those that are left
pub loop-id-preserved : goal.loop-id-preserved
loop-id-preserved g c =
    rw c.number-from.ensures
    (some_more (λ (y : Consumer). y.number) (sign_at c.args.topo.now)
    (consumers_of c.args.topo.now.topology c.args.geom)
    _ _ _ (sign_in c.args.topo.now c.args.geom) c.in-Some.ensures.next.left
    (sym c.sign_at-sign.ensures
    ∙ none_of c.sign_at-sign.result (sym c.is_some.ensures ∙ c.if-is_some.false)) c.loop-id.invariant)
