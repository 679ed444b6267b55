use Rattle.std.proofs.Common.{sym, ap, ◌∙◌, IsSome}
use Rattle.std.proofs.lemmas.List.Elements.{All-rest}
use Rattle.std.specs.Prelude.{fold}
use Rattle.geo_model.specs.Topology.{geom_at, providers_under}
use Rattle.geo_access.specs.Views.{order_of, lesser}
use Rattle.geo_access.proofs.decide.first_errored.Goals as goal

-- the best so far has what is under this geom, which the order has first
pub loop-geom-preserved : goal.loop-geom-preserved
loop-geom-preserved g c = record {
  lives =
      All-rest (λ x. IsSome (geom_at c.args.topo.now.topology x)) c.in-Some.geom
      (order_of c.args.topo.now c.take.new.order) (order_of c.args.topo.now c.loop-geom.rest)
      c.in-Some.ensures.next c.loop-geom.invariant.lives;
  least =
      ap (λ b. fold (λ best x. fold (lesser c.args.topo.now) best (providers_under c.args.topo.now.topology x)) b
      (order_of c.args.topo.now c.take.new.order)) c.errored_under-best.ensures
      ∙ sym (ap (fold (λ best x. fold (lesser c.args.topo.now) best (providers_under c.args.topo.now.topology x))
      c.loop-geom.best) c.in-Some.ensures.next)
      ∙ c.loop-geom.invariant.least;
}
