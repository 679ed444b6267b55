use Rattle.std.proofs.Common.{sym, ◌∙◌}
use Rattle.geo_base.proofs.Options.{none_of}
use Rattle.geo_model.specs.Topology.{Provider, providers_of}
use Rattle.geo_access.specs.Views.{fault_at, fault_in}
use Rattle.geo_access.proofs.Folding.{some_begin, some_more}
use Rattle.geo_access.proofs.decide.fault_in.Goals as goal

pub loop-id-init : goal.loop-id-init
loop-id-init g c =
    some_begin (λ (y : Provider). y.number) (λ (y : Provider). fault_at c.args.topo.now c.args.asked y.number)
    (providers_of c.args.topo.now.topology c.args.geom)

-- nothing is wrong at this provider, so the first fault lies at those that are left
pub loop-id-preserved : goal.loop-id-preserved
loop-id-preserved g c =
    rw c.number-from.ensures
    (some_more (λ (y : Provider). y.number) (λ (y : Provider). fault_at c.args.topo.now c.args.asked y.number)
    (providers_of c.args.topo.now.topology c.args.geom)
    _ _ _ (fault_in c.args.topo.now c.args.asked c.args.geom) c.in-Some.ensures.next.left
    (sym c.fault_at-fault.ensures
    ∙ none_of c.fault_at-fault.result (sym c.is_some.ensures ∙ c.if-is_some.false)) c.loop-id.invariant)
