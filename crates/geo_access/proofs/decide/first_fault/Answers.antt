use Rattle.std.proofs.Common.{sym, ap, ◌∙◌, IsSome}
use Rattle.std.proofs.lemmas.List.Elements.{All-rest}
use Rattle.std.specs.Option.{option_or}
use Rattle.geo_base.proofs.Options.{none_of}
use Rattle.geo_model.specs.Topology.{geom_at}
use Rattle.geo_access.specs.Views.{order_of, fault_in, first_given}
use Rattle.geo_access.proofs.decide.first_fault.Goals as goal

-- nothing is wrong in this geom, which the order has first
pub loop-geom-preserved : goal.loop-geom-preserved
loop-geom-preserved g c = record {
  lives =
      All-rest (λ x. IsSome (geom_at c.args.topo.now.topology x)) c.in-Some.geom
      (order_of c.args.topo.now c.take.new.order) (order_of c.args.topo.now c.loop-geom.rest)
      c.in-Some.ensures.next c.loop-geom.invariant.lives;
  first =
      sym (ap (λ o.
      option_or o (first_given (fault_in c.args.topo.now c.args.asked) (order_of c.args.topo.now c.take.new.order)))
      (sym c.fault_in-fault.ensures
      ∙ none_of c.fault_in-fault.result (sym c.is_some.ensures ∙ c.if-is_some.false)))
      ∙ sym (ap (first_given (fault_in c.args.topo.now c.args.asked)) c.in-Some.ensures.next)
      ∙ c.loop-geom.invariant.first;
}
