use Rattle.std.specs.Prelude.{is_some}
use Rattle.std.proofs.Common.{ap, sym, ◌∙◌}
use Rattle.geo_base.proofs.Options.{none_of}
use Rattle.geo_access.specs.Views.{order_of, against, fault_in, first_given}
use Rattle.geo_access.specs.declared.decide.Asked.TheVariants.{Exclusion}
use Rattle.geo_access.proofs.Errnos.{against_errno, exclusion_errno, limit_errno}
use Rattle.geo_access.proofs.judge.decide.Goals as goal
use Rattle.geo_access.proofs.judge.decide.Goals.{then-is_against-via-then-is_against, then-is_against-via-else-is_against+then-is_against_below}

-- no error is below, and another stands in the way at the provider or below
pub returns-then-is_against : goal.returns-then-is_against
returns-then-is_against g c =
    let sound = sym c.first_errored.ensures
    ∙ none_of c.first_errored.result (sym c.is_some.ensures ∙ c.if-is_some.false) in
    elim c.then-is_against.branch [
      | then-is_against-via-then-is_against w ↦
          sym (against_errno c.args.topo.now c.args.prov c.args.add (order_of c.args.topo.now c.args.order) sound
          (sym c.is_against.ensures ∙ w.if-is_against.true))
      | then-is_against-via-else-is_against+then-is_against_below w ↦
          sym (exclusion_errno c.args.topo.now c.args.prov c.args.add (order_of c.args.topo.now c.args.order) sound
          (none_of (against c.args.topo.now c.args.prov c.args.add)
          (sym c.is_against.ensures ∙ w.if-is_against.false))
          (sym w.is_against_below.ensures ∙ w.if-is_against_below.true))
    ]

-- nothing of that is, but a count is too great
pub returns-then-is_some-2 : goal.returns-then-is_some-2
returns-then-is_some-2 g c =
    let sound = sym c.first_errored.ensures
    ∙ none_of c.first_errored.result (sym c.is_some.ensures ∙ c.if-is_some.false) in
    sym (limit_errno c.args.topo.now c.args.prov c.args.add (order_of c.args.topo.now c.args.order) sound
    (none_of (against c.args.topo.now c.args.prov c.args.add) (sym c.is_against.ensures ∙ c.if-is_against.false))
    (none_of (first_given (fault_in c.args.topo.now Exclusion) (order_of c.args.topo.now c.args.order))
    (sym c.is_against_below.ensures ∙ c.if-is_against_below.false))
    (sym (ap (λ o. is_some o) c.first_fault.ensures) ∙ sym c.is_some-2.ensures ∙ c.if-is_some-2.true))
