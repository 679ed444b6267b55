use Rattle.std.proofs.Common.{Some, None, sym, subst}
use Rattle.geo_model.specs.declared.step.Step.{Step}
use Rattle.geo_core.specs.Goes.{IsReady}
use Rattle.geo_core.proofs.Admits.{ready_some, ready_none, ready_other}
use Rattle.geo_core.proofs.owed.decide_step.Goals as goal

-- what was decided is decided of the actor's next command, and there is just one
pub returns-in-Ok-clause-ready : goal.returns-in-Ok-clause-ready
returns-in-Ok-clause-ready g c =
    subst
    (λ (st : Step). IsReady c.args.plan.now.commands c.args.left.now c.args.state.now st (Some c.decide.result))
    (sym c.in-Go.is)
    (ready_some c.args.plan.now.commands c.args.left.now c.args.state.now c.in-Go.actor c.in-Ok.line.now
    c.decide.result c.in-Ok.ensures c.decide.ensures.decided)

-- the actor has no next command, so nothing need be decided
pub returns-in-Err-clause-ready : goal.returns-in-Err-clause-ready
returns-in-Err-clause-ready g c =
    subst (λ (st : Step). IsReady c.args.plan.now.commands c.args.left.now c.args.state.now st None) (sym c.in-Go.is)
    (ready_none c.args.plan.now.commands c.args.left.now c.args.state.now c.in-Go.actor c.in-Err.field-0
    c.in-Err.ensures)

pub returns-in_default-clause-ready : goal.returns-in_default-clause-ready
returns-in_default-clause-ready g c =
    ready_other c.args.plan.now.commands c.args.left.now c.args.state.now c.args.step.now c.in_default.not-Go
