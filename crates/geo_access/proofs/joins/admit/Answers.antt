use Rattle.std.proofs.Common.{refl, sym, ap, ◌∙◌, subst}
use Rattle.std.specs.Prelude.{IsSome, IfSome}
use Rattle.geo_model.specs.Topology.{Consumer, consumer_at, detach}
use Rattle.geo_mesh.specs.Topo.{TopoView, with_topology}
use Rattle.geo_laws_graph.specs.LookupLaws.{AttachedIsFound}
use Rattle.geo_laws_graph.proofs.Found.{attached-found}
use Rattle.geo_access.proofs.JoinDemand.{loose_is, detached_again}
use Rattle.geo_access.proofs.joins.admit.Goals as goal

-- for both conditions: the consumer stood there, and was just attached
pub detach-requires-clause-lives : goal.detach-requires-clause-lives
detach-requires-clause-lives g c =
    let loose = loose_is c.args.topo.now c.args.cons c.requires.loose in
    subst (λ (v : TopoView g.row.C.Denot). IsSome (consumer_at v.topology c.args.cons))
    (sym c.in_default-attach.ensures.attached)
    (subst (λ o. IsSome o)
    (sym (AttachedIsFound.here attached-found c.args.topo.now.topology c.args.cons c.args.prov loose.one
    loose.found)) refl)

pub detach-requires-clause-attached : goal.detach-requires-clause-attached
detach-requires-clause-attached g c =
    let loose = loose_is c.args.topo.now c.args.cons c.requires.loose in
    subst (λ (v : TopoView g.row.C.Denot).
    IfSome (consumer_at v.topology c.args.cons) (λ (x : Consumer). IsSome x.provider))
    (sym c.in_default-attach.ensures.attached)
    (subst (λ o. IfSome o (λ (x : Consumer). IsSome x.provider))
    (sym (AttachedIsFound.here attached-found c.args.topo.now.topology c.args.cons c.args.prov loose.one
    loose.found)) refl)

-- the consumer was attached to nothing before, so the graph is as before once it is detached again
pub returns-in-Err-answer-clause-same : goal.returns-in-Err-answer-clause-same
returns-in-Err-answer-clause-same g c =
    let loose = loose_is c.args.topo.now c.args.cons c.requires.loose in
    c.detach.ensures
    ∙ ap (λ (v : TopoView g.row.C.Denot). with_topology v (detach v.topology c.args.cons))
    c.in_default-attach.ensures.attached
    ∙ ap (with_topology c.args.topo.now)
    (detached_again c.args.topo.now.topology c.args.cons c.args.prov loose.one c.requires.sound.orderly.order
    loose.found loose.free)
