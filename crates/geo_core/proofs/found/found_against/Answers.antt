use Rattle.std.proofs.Common.{Some}
use Rattle.geo_model.specs.Step.{step}
use Rattle.geo_core.proofs.Admits.{found_next, found_nothing, found_by}
use Rattle.geo_core.proofs.found.found_against.Goals as goal

pub returns-in-Ok : goal.returns-in-Ok
returns-in-Ok c =
    let commands = c.args.plan.now.commands in
    found_by commands c.args.left.now c.args.state.now c.args.seat c.wait_found.result c.in-Go.is
    (found_next commands c.args.left.now c.args.state.now c.in-Go.actor c.in-Ok.line.now c.wait_found.result
    c.in-Ok.ensures c.wait_found.ensures)

pub returns-in-Err : goal.returns-in-Err
returns-in-Err c =
    let commands = c.args.plan.now.commands in
    found_by commands c.args.left.now c.args.state.now c.args.seat (Some c.in-Err.found) c.in-Go.is
    (found_nothing commands c.args.left.now c.args.state.now c.in-Go.actor c.in-Err.found c.in-Err.ensures)

pub returns-in-Event : goal.returns-in-Event
unfolding step
returns-in-Event c =
    found_by c.args.plan.now.commands c.args.left.now c.args.state.now c.args.seat c.event_found.result c.in-Event.is
    c.event_found.ensures

pub returns-in-Judge : goal.returns-in-Judge
unfolding step
returns-in-Judge c =
    found_by c.args.plan.now.commands c.args.left.now c.args.state.now c.args.seat c.judge_found.result c.in-Judge.is
    c.judge_found.ensures

pub returns-in-Reap : goal.returns-in-Reap
unfolding step
returns-in-Reap c =
    found_by c.args.plan.now.commands c.args.left.now c.args.state.now c.args.seat c.reap_found.result c.in-Reap.is
    c.reap_found.ensures

pub returns-in-Wash : goal.returns-in-Wash
unfolding step
returns-in-Wash c =
    found_by c.args.plan.now.commands c.args.left.now c.args.state.now c.args.seat c.wash_found.result c.in-Wash.is
    c.wash_found.ensures

pub returns-in-Start : goal.returns-in-Start
unfolding step
returns-in-Start c =
    found_by c.args.plan.now.commands c.args.left.now c.args.state.now c.args.seat c.start_found.result c.in-Start.is
    c.start_found.ensures

pub returns-in-Take : goal.returns-in-Take
unfolding step
returns-in-Take c =
    found_by c.args.plan.now.commands c.args.left.now c.args.state.now c.args.seat c.take_found.result c.in-Take.is
    (c.take_found.ensures c.args.seat)

pub returns-in-Deliver : goal.returns-in-Deliver
unfolding step
returns-in-Deliver c =
    found_by c.args.plan.now.commands c.args.left.now c.args.state.now c.args.seat c.deliver_found.result
    c.in-Deliver.is c.deliver_found.ensures

pub returns-in-Up : goal.returns-in-Up
unfolding step
returns-in-Up c =
    found_by c.args.plan.now.commands c.args.left.now c.args.state.now c.args.seat c.up_found.result c.in-Up.is
    c.up_found.ensures
