use Rattle.std.proofs.Common.{◌≡◌, ◌+◌, sym, ap, arith, ◌∙◌, subst, IsSome}
use Rattle.std.proofs.lemmas.List.Elements.{All-rest, All-same}
use Rattle.std.specs.Prelude.{fold, All, length}
use Rattle.geo_model.specs.Topology.{geom_at, consumers_of}
use Rattle.geo_access.specs.Views.{order_of, spread_from, consumers_over}
use Rattle.geo_access.proofs.Folding.{order_more, rest_same, spread_marks}
use Rattle.geo_access.proofs.spread.spread.Goals as goal

-- handing down changes what is gained and no mark, so the order leads through the others as before
pub loop-geom-preserved : goal.loop-geom-preserved
loop-geom-preserved g c =
    let same : order_of c.spread_from.new.topo c.take.new.order ≡ order_of c.loop-geom.topo c.take.new.order =
    rest_same (spread_from c.args.way) c.loop-geom.topo c.spread_from.new.topo c.take.new.order c.in-Some.geom
    c.spread_from.ensures.spread
    (λ y there. spread_marks c.args.way c.loop-geom.topo c.in-Some.geom y) in
    let sums : consumers_over c.spread_from.new.topo.topology (order_of c.spread_from.new.topo c.take.new.order)
    ≡ consumers_over c.loop-geom.topo.topology (order_of c.loop-geom.topo c.take.new.order) =
    ap (λ u. consumers_over u (order_of c.spread_from.new.topo c.take.new.order)) c.spread_from.ensures.graph
    ∙ ap (consumers_over c.loop-geom.topo.topology) same in
    let next : consumers_over c.loop-geom.topo.topology (order_of c.loop-geom.topo c.loop-geom.rest)
    ≡ length (consumers_of c.loop-geom.topo.topology c.in-Some.geom) + consumers_over c.loop-geom.topo.topology
    (order_of c.loop-geom.topo c.take.new.order) =
    ap (consumers_over c.loop-geom.topo.topology) c.in-Some.ensures.next in
    record {
      graph = c.spread_from.ensures.graph ∙ c.loop-geom.invariant.graph;
      lives =
          subst (λ u. All (λ x. IsSome (geom_at u x)) (order_of c.spread_from.new.topo c.take.new.order))
          (sym c.spread_from.ensures.graph)
          (All-same (λ x. IsSome (geom_at c.loop-geom.topo.topology x))
          (order_of c.spread_from.new.topo c.take.new.order) (order_of c.loop-geom.topo c.take.new.order) same
          (All-rest (λ x. IsSome (geom_at c.loop-geom.topo.topology x)) c.in-Some.geom
          (order_of c.loop-geom.topo c.take.new.order) (order_of c.loop-geom.topo c.loop-geom.rest)
          c.in-Some.ensures.next c.loop-geom.invariant.lives));
      spread =
          order_more (spread_from c.args.way) c.loop-geom.topo c.spread_from.new.topo
          (fold (spread_from c.args.way) c.args.topo.now (order_of c.args.topo.now c.args.order)) c.loop-geom.rest
          c.take.new.order c.in-Some.geom
          c.in-Some.ensures.next c.spread_from.ensures.spread
          (λ y there. spread_marks c.args.way c.loop-geom.topo c.in-Some.geom y) c.loop-geom.invariant.spread;
      steps = omega (arith, sums, next, c.spread_from.ensures.steps, c.loop-geom.invariant.steps);
    }
