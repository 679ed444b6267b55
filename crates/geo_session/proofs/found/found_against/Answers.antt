use Rattle.std.proofs.Common.{Some}
use Rattle.geo_model.specs.Step.{step}
use Rattle.geo_session.proofs.Answered.{found_by}
use Rattle.geo_session.proofs.found.found_against.Goals as goal

pub returns-in-Go : goal.returns-in-Go
returns-in-Go c =
    found_by c.args.actors c.args.state.now c.args.state.now c.args.seat c.in-Go.is (Some c.no_command.result)
    (c.no_command.ensures c.args.state.now)

pub returns-in-Event : goal.returns-in-Event
unfolding step
returns-in-Event c =
    found_by c.args.actors c.args.state.now c.args.state.now c.args.seat c.in-Event.is c.event_found.result
    c.event_found.ensures

pub returns-in-Judge : goal.returns-in-Judge
unfolding step
returns-in-Judge c =
    found_by c.args.actors c.args.state.now c.args.state.now c.args.seat c.in-Judge.is c.judge_found.result
    c.judge_found.ensures

pub returns-in-Reap : goal.returns-in-Reap
unfolding step
returns-in-Reap c =
    found_by c.args.actors c.args.state.now c.args.state.now c.args.seat c.in-Reap.is c.reap_found.result
    c.reap_found.ensures

pub returns-in-Wash : goal.returns-in-Wash
unfolding step
returns-in-Wash c =
    found_by c.args.actors c.args.state.now c.args.state.now c.args.seat c.in-Wash.is c.wash_found.result
    c.wash_found.ensures

pub returns-in-Start : goal.returns-in-Start
unfolding step
returns-in-Start c =
    found_by c.args.actors c.args.state.now c.args.state.now c.args.seat c.in-Start.is c.start_found.result
    c.start_found.ensures

pub returns-in-Take : goal.returns-in-Take
unfolding step
returns-in-Take c =
    found_by c.args.actors c.args.state.now c.args.state.now c.args.seat c.in-Take.is c.take_found.result
    (c.take_found.ensures c.args.seat)

pub returns-in-Deliver : goal.returns-in-Deliver
unfolding step
returns-in-Deliver c =
    found_by c.args.actors c.args.state.now c.args.state.now c.args.seat c.in-Deliver.is c.deliver_found.result
    c.deliver_found.ensures

pub returns-in-Up : goal.returns-in-Up
unfolding step
returns-in-Up c =
    found_by c.args.actors c.args.state.now c.args.state.now c.args.seat c.in-Up.is c.up_found.result
    c.up_found.ensures
