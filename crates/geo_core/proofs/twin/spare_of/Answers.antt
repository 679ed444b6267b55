use Rattle.std.proofs.Common.{IfOk, sym, subst}
use Rattle.geo_model.specs.declared.step.Step.{Step}
use Rattle.geo_core.specs.Mesh.{world_of, IsSure}
use Rattle.geo_core.specs.Running.{seen}
use Rattle.geo_core.specs.Twins.{HasOutcome}
use Rattle.geo_core.proofs.Twins.{spare_go_result, spare_no_go, spare_take, spare_up, spare_none, close_is_quiet}
use Rattle.geo_core.proofs.twin.spare_of.Goals as goal

-- the outcome of the Go is that of the actor's next command
pub returns-in-Ok-clause-outcome : goal.returns-in-Ok-clause-outcome
returns-in-Ok-clause-outcome c =
    let r = c.args.running.now in
    subst (λ (st : Step). IfOk c.lines_of.result (λ spare. HasOutcome (world_of (seen r)) st spare)) (sym c.in-Go.is)
    (spare_go_result r c.requires.mesh c.in-Go.actor c.in-Ok.line.now c.lines_of.result c.in-Ok.ensures
    c.lines_of.ensures.outcome)

-- a Go that is never refused is a close, and a close prints nothing
pub returns-in-Ok-clause-sure : goal.returns-in-Ok-clause-sure
returns-in-Ok-clause-sure c = λ seat sure.
    let r = c.args.running.now in
    c.lines_of.ensures.sure
    (close_is_quiet r c.requires.mesh seat c.in-Go.actor c.in-Ok.line.now c.in-Ok.ensures
    (subst (λ (st : Step). IsSure (world_of (seen r)) seat st) c.in-Go.is sure))

-- there is no next command, so the Go isn't enabled and has no outcome
pub returns-in-Err-clause-outcome : goal.returns-in-Err-clause-outcome
returns-in-Err-clause-outcome c =
    let r = c.args.running.now in
    subst (λ (st : Step). HasOutcome (world_of (seen r)) st _) (sym c.in-Go.is)
    (spare_no_go r c.requires.mesh c.in-Go.actor c.in-Err.field-0 _ c.in-Err.ensures)

-- the disk is asked with the bytes of the bio
pub returns-in-Take-clause-outcome : goal.returns-in-Take-clause-outcome
returns-in-Take-clause-outcome c =
    let r = c.args.running.now in
    let asked = c.bytes_asked.result in
    subst (λ (st : Step). IfOk asked (λ spare. HasOutcome (world_of (seen r)) st spare)) (sym c.in-Take.is)
    (spare_take r c.requires.mesh c.in-Take.disk c.in-Take.bio c.bytes_asked.result c.bytes_asked.ensures)

-- of all steps only a Deliver and a close are never refused, so no Take is, and no Up
pub returns-in-Take-clause-sure : goal.returns-in-Take-clause-sure
returns-in-Take-clause-sure c = λ seat sure.
    absurd (subst (λ (st : Step). IsSure (world_of (seen c.args.running.now)) seat st) c.in-Take.is sure)

-- the reply to a line has what its request read, which the log or the bio holds
pub returns-in-Up-clause-outcome : goal.returns-in-Up-clause-outcome
returns-in-Up-clause-outcome c =
    let r = c.args.running.now in
    subst (λ (st : Step). IfOk c.bytes_read.result (λ spare. HasOutcome (world_of (seen r)) st spare)) (sym c.in-Up.is)
    (spare_up r c.requires.mesh c.in-Up.bio c.bytes_read.result c.bytes_read.ensures)

pub returns-in-Up-clause-sure : goal.returns-in-Up-clause-sure
returns-in-Up-clause-sure c = λ seat sure.
    absurd (subst (λ (st : Step). IsSure (world_of (seen c.args.running.now)) seat st) c.in-Up.is sure)

-- the outcome of each other step takes no memory
pub returns-in_default-clause-outcome : goal.returns-in_default-clause-outcome
returns-in_default-clause-outcome c =
    spare_none c.args.running.now c.requires.mesh c.args.step.now c.in_default.not-Go c.in_default.not-Take
    c.in_default.not-Up
