use Rattle.std.proofs.Common.{◌≡◌, ◌≤◌, ◌<◌, suc, refl, sym, ap, arith, ◌∙◌, subst}
use Rattle.std.specs.Prelude.{fold}
use Rattle.geo_model.specs.Topology.{Consumer, consumers_of}
use Rattle.geo_model.specs.Rank.{rank}
use Rattle.geo_mesh.specs.Cells.{consumer_seen}
use Rattle.geo_access.specs.Views.{Gathered, visit_under}
use Rattle.geo_access.proofs.Folding.{fold_begin, fresh_lower, visit_adds, visit_skips, gather_more, gather_whole, gathered_same}
use Rattle.geo_access.proofs.order.+gather.Goals as goal
use Rattle.geo_access.proofs.order.+gather.Goals.{in-Some-fresh_under, in_default-fresh_under}

pub loop-id-init : goal.loop-id-init
loop-id-init g t c = record {
  graph = refl;
  gathered = λ levels high.
      fold_begin (λ (y : Consumer). y.number) (visit_under levels) (consumers_of c.args.topo.now.topology c.args.geom)
      (record { view = c.args.topo.now; order = c.args.order.now });
}

-- a geom below has a smaller rank, so the descent ends
pub gather-requires : goal.gather-requires
gather-requires g t c κs within =
    let less : rank c.loop-id.topo.topology c.in-Some-fresh_under.under < rank c.loop-id.topo.topology c.args.geom =
    fresh_lower c.loop-id.topo c.args.geom _ _ _ c.in-Some-fresh_under.under c.consumer_of.ensures.sound
    c.in-Some.ensures.next.left
    (sym c.fresh_under.ensures.fresh ∙ c.in-Some-fresh_under.is) in
    let same : rank c.loop-id.topo.topology c.args.geom ≡ rank c.args.topo.now.topology c.args.geom =
    ap (λ u. rank u c.args.geom) c.loop-id.invariant.graph in
    (omega (arith, c.decreases), ((λ a there. within a there), c.in-Some-fresh_under.ensures.lives))

-- the geom below was gathered if it wasn't in the order, else passed over, as the model visits it
pub loop-id-preserved : goal.loop-id-preserved
loop-id-preserved g t c =
    let graph : c.match-fresh_under.topo.topology ≡ c.loop-id.topo.topology =
    elim c.match-fresh_under.branch [
      | in-Some-fresh_under w ↦ ap (λ u. u.topology) w.topo-is ∙ w.gather.ensures.graph
      | in_default-fresh_under w ↦ ap (λ u. u.topology) w.topo-is
    ] in
    record {
      graph = graph ∙ c.loop-id.invariant.graph;
      gathered = λ levels high.
          let there : rank c.loop-id.topo.topology c.args.geom ≤ suc levels =
          subst (λ u. rank u c.args.geom ≤ suc levels) graph high in
          let x : Consumer = consumer_seen c.in-Some.id-1-given.0.0.0 c.in-Some.id-1-given.0.0.1 in
          let step : ◌≡◌ {A = Gathered g.row.C.Denot} (record {
            view = c.match-fresh_under.topo;
            order = c.match-fresh_under.order;
          }) (visit_under levels (record { view = c.loop-id.topo; order = c.loop-id.order }) x) =
          elim c.match-fresh_under.branch [
            | in-Some-fresh_under w ↦
                let less : rank c.loop-id.topo.topology w.in-Some-fresh_under.under
                < rank c.loop-id.topo.topology c.args.geom =
                fresh_lower c.loop-id.topo c.args.geom _ _ _ w.in-Some-fresh_under.under
                c.consumer_of.ensures.sound c.in-Some.ensures.next.left
                (sym c.fresh_under.ensures.fresh ∙ w.in-Some-fresh_under.is) in
                gathered_same c.match-fresh_under.topo w.gather.new.topo c.match-fresh_under.order
                w.gather.new.order w.topo-is w.order-is
                ∙ visit_adds levels c.loop-id.topo c.loop-id.order x w.in-Some-fresh_under.under
                (record { view = w.gather.new.topo; order = w.gather.new.order })
                (sym c.fresh_under.ensures.fresh ∙ w.in-Some-fresh_under.is)
                (w.gather.ensures.gathered levels (omega arith))
            | in_default-fresh_under w ↦
                gathered_same c.match-fresh_under.topo c.loop-id.topo c.match-fresh_under.order c.loop-id.order
                w.topo-is w.order-is
                ∙ visit_skips levels c.loop-id.topo c.loop-id.order x
                (sym c.fresh_under.ensures.fresh ∙ w.in_default-fresh_under.is)
          ] in
          rw c.number-from.ensures
          (gather_more levels c.loop-id.topo c.loop-id.order c.match-fresh_under.topo
          c.match-fresh_under.order c.args.geom _ _ _
          (fold (visit_under levels) (record { view = c.args.topo.now; order = c.args.order.now })
          (consumers_of c.args.topo.now.topology c.args.geom))
          c.in-Some.ensures.next.left graph step (c.loop-id.invariant.gathered levels there));
    }

-- all below is in the order now, so the geom itself comes in front
pub returns-clause-gathered : goal.returns-clause-gathered
returns-clause-gathered g t c levels high =
    gather_whole levels c.args.geom (record { view = c.args.topo.now; order = c.args.order.now }) c.loop-id.topo
    c.loop-id.order c.loop-id.from
    (record { view = c.put.new.topo; order = c.put.new.order }) high c.in_default.ensures.next
    (λ k h. c.loop-id.invariant.gathered k
    (subst (λ u. rank u c.args.geom ≤ suc k) (sym c.loop-id.invariant.graph) h)) c.put.ensures
