use Rattle.std.proofs.Common.{◌≡◌, sym, subst, IsSome, ℕ, ◌∷◌}
use Rattle.std.proofs.lemmas.List.Elements.{All-rest, All-same}
use Rattle.std.specs.Prelude.{fold, All, Contains}
use Rattle.geo_model.specs.Topology.{geom_at}
use Rattle.geo_access.specs.Tries.{Apart}
use Rattle.geo_access.specs.Views.{order_of, finish_geom}
use Rattle.geo_access.proofs.Folding.{order_more, rest_same, finish_marks}
use Rattle.geo_access.proofs.finish.finish.Goals as goal

-- the walk met each geom once, so what ends at this one leaves the marks that lead through the others
pub loop-geom-preserved : goal.loop-geom-preserved
loop-geom-preserved g c =
    let apart : Apart (c.in-Some.geom ∷ order_of c.loop-geom.topo c.take.new.order) =
    subst Apart c.in-Some.ensures.next c.loop-geom.invariant.apart in
    let marks = λ (y : ℕ) (there : Contains (order_of c.loop-geom.topo c.take.new.order) y).
    finish_marks c.args.keep c.loop-geom.topo c.in-Some.geom y
    (λ e. apart.0 (subst (Contains (order_of c.loop-geom.topo c.take.new.order)) e there)) in
    let same : order_of c.finish_geom.new.topo c.take.new.order ≡ order_of c.loop-geom.topo c.take.new.order =
    rest_same (finish_geom c.args.keep) c.loop-geom.topo c.finish_geom.new.topo c.take.new.order c.in-Some.geom
    c.finish_geom.ensures.finished marks in
    record {
      lives =
          subst (λ u. All (λ x. IsSome (geom_at u x)) (order_of c.finish_geom.new.topo c.take.new.order))
          (sym c.finish_geom.ensures.graph)
          (All-same (λ x. IsSome (geom_at c.loop-geom.topo.topology x))
          (order_of c.finish_geom.new.topo c.take.new.order) (order_of c.loop-geom.topo c.take.new.order) same
          (All-rest (λ x. IsSome (geom_at c.loop-geom.topo.topology x)) c.in-Some.geom
          (order_of c.loop-geom.topo c.take.new.order) (order_of c.loop-geom.topo c.loop-geom.rest)
          c.in-Some.ensures.next c.loop-geom.invariant.lives));
      apart = subst Apart (sym same) apart.1;
      finished =
          order_more (finish_geom c.args.keep) c.loop-geom.topo c.finish_geom.new.topo
          (fold (finish_geom c.args.keep) c.args.topo.now (order_of c.args.topo.now c.args.order)) c.loop-geom.rest
          c.take.new.order c.in-Some.geom
          c.in-Some.ensures.next c.finish_geom.ensures.finished marks c.loop-geom.invariant.finished;
    }
