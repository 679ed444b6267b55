use Rattle.std.proofs.Common.{sym, ap, ◌∙◌}
use Rattle.std.specs.List.{list_any}
use Rattle.geo_model.specs.Topology.{Consumer}
use Rattle.geo_laws_graph.specs.LookupLaws.{WalksMeetAll}
use Rattle.geo_laws_graph.proofs.Walks.{walks-meet}
use Rattle.geo_taste.specs.Over.{over, stands_as}
use Rattle.geo_taste.proofs.Asking.{over_told, any_next, any_first}
use Rattle.geo_taste.proofs.over.is_attached.Goals as goal

pub loop-id-init : goal.loop-id-init
loop-id-init c =
    ap (list_any (λ (y : Consumer). stands_as c.args.topo.now.topology c.args.kind y.geom))
    (WalksMeetAll.begin walks-meet (λ (y : Consumer). y.number)
    (over c.args.topo.now.topology c.args.kind c.args.prov))

-- one geom of the class is enough, and the handles that were passed over are of no class but DEV
pub returns-then-stands_as : goal.returns-then-stands_as
returns-then-stands_as c =
    any_first (λ (y : Consumer). stands_as c.args.topo.now.topology c.args.kind y.geom) _ _ _ _
    c.in-Some.ensures.next.left (sym c.stands_as.ensures ∙ c.if-stands_as.true) c.loop-id.invariant
    ∙ over_told c.args.topo.now.topology c.args.kind c.args.prov c.consumer_over.ensures.sound

-- this geom isn't one of the class that stands, so the answer lies with the consumers that are left
pub loop-id-preserved : goal.loop-id-preserved
loop-id-preserved c =
    rw c.number-from.ensures
    (any_next (λ (y : Consumer). stands_as c.args.topo.now.topology c.args.kind y.geom) _ _ _ _
    c.in-Some.ensures.next.left (sym c.stands_as.ensures ∙ c.if-stands_as.false) c.loop-id.invariant)

-- no consumer is left, so none of them has a geom of the class
pub returns : goal.returns
returns c =
    sym (ap (list_any (λ (y : Consumer). stands_as c.args.topo.now.topology c.args.kind y.geom))
    c.in_default.ensures.next)
    ∙ c.loop-id.invariant
    ∙ over_told c.args.topo.now.topology c.args.kind c.args.prov c.consumer_over.ensures.sound
