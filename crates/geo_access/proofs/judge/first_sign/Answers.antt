use Rattle.std.proofs.Common.{sym, ap, ◌∙◌, IsSome}
use Rattle.std.proofs.lemmas.List.Elements.{All-rest}
use Rattle.std.specs.Option.{option_or}
use Rattle.geo_base.proofs.Options.{none_of}
use Rattle.geo_model.specs.Topology.{geom_at}
use Rattle.geo_access.specs.Views.{order_of, sign_in, first_given}
use Rattle.geo_access.proofs.judge.first_sign.Goals as goal

-- this geom, which the order has first, has no sign
pub loop-geom-preserved : goal.loop-geom-preserved
loop-geom-preserved g c = record {
  lives =
      All-rest (λ x. IsSome (geom_at c.args.topo.now.topology x)) c.in-Some.geom
      (order_of c.args.topo.now c.take.new.order) (order_of c.args.topo.now c.loop-geom.rest)
      c.in-Some.ensures.next c.loop-geom.invariant.lives;
  first =
      sym (ap (λ o.
      option_or o (first_given (sign_in c.args.topo.now) (order_of c.args.topo.now c.take.new.order)))
      (sym c.sign_in-sign.ensures
      ∙ none_of c.sign_in-sign.result (sym c.is_some.ensures ∙ c.if-is_some.false)))
      ∙ sym (ap (first_given (sign_in c.args.topo.now)) c.in-Some.ensures.next)
      ∙ c.loop-geom.invariant.first;
}
