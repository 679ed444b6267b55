use Rattle.std.proofs.Common.{[]}
use Rattle.geo_model.specs.declared.step.Outcome.TheVariants as outcomes
use Rattle.geo_model.specs.Step.{step}
use Rattle.geo_moves.proofs.Phased.{is_down_now, is_up_now}
use Rattle.geo_session.proofs.Answered.{made_by, never_none, no_deliver_by, none_by, turned}
use Rattle.geo_session.proofs.making.turn.Goals as goal

-- something is against each Go
pub unreachable-requires : goal.unreachable-requires
unreachable-requires g c =
    never_none c.args.actors c.args.state.now c.args.seat c.in-Go.actor
    (none_by c.args.actors c.args.state.now c.args.state.now c.args.seat c.in-Go.is c.requires.found)

-- For each other step: what is enabled for the step of the seat is due for what it does
pub event-requires-clause-due : goal.event-requires-clause-due
unfolding step
event-requires-clause-due g c =
    none_by c.args.actors c.args.state.now c.args.state.now c.args.seat c.in-Event.is c.requires.found

pub judge-requires-clause-due : goal.judge-requires-clause-due
unfolding step
judge-requires-clause-due g c =
    none_by c.args.actors c.args.state.now c.args.state.now c.args.seat c.in-Judge.is c.requires.found

pub reap-requires-clause-due : goal.reap-requires-clause-due
unfolding step
reap-requires-clause-due g c =
    none_by c.args.actors c.args.state.now c.args.state.now c.args.seat c.in-Reap.is c.requires.found

pub wash-requires-clause-due : goal.wash-requires-clause-due
unfolding step
wash-requires-clause-due g c =
    none_by c.args.actors c.args.state.now c.args.state.now c.args.seat c.in-Wash.is c.requires.found

pub take-requires-clause-enabled : goal.take-requires-clause-enabled
unfolding step
take-requires-clause-enabled g c =
    none_by c.args.actors c.args.state.now c.args.state.now c.args.seat c.in-Take.is c.requires.found

pub deliver_kept-requires-clause-enabled : goal.deliver_kept-requires-clause-enabled
unfolding step
deliver_kept-requires-clause-enabled g c =
    none_by c.args.actors c.args.state.now c.args.state.now c.args.seat c.in-Deliver.is c.requires.found

-- a bio in another phase, or none, would be against the Start
pub start-requires-clause-down : goal.start-requires-clause-down
start-requires-clause-down g c =
    is_down_now c.args.state.now c.args.seat c.in-Start.bio
    (none_by c.args.actors c.args.state.now c.args.state.now c.args.seat c.in-Start.is c.requires.found)

-- and against the Up
pub rise-requires-clause-up : goal.rise-requires-clause-up
rise-requires-clause-up g c =
    is_up_now c.args.state.now c.args.seat c.in-Up.bio
    (none_by c.args.actors c.args.state.now c.args.state.now c.args.seat c.in-Up.is c.requires.found)

-- From here on: what was made is what the step does in the model
pub returns-in-Judge-clause-made : goal.returns-in-Judge-clause-made
unfolding step
returns-in-Judge-clause-made g c =
    turned c.args.actors c.args.state.now c.judge.new.state c.args.seat c.in-Judge.is c.judge.result
    (c.judge.ensures.made [])

pub returns-in-Judge-clause-sure : goal.returns-in-Judge-clause-sure
returns-in-Judge-clause-sure g c = λ sure.
    absurd (no_deliver_by c.args.actors c.args.state.now c.judge.new.state c.args.seat c.in-Judge.is (λ no. no) sure)

pub returns-in-Start-clause-made : goal.returns-in-Start-clause-made
unfolding step
returns-in-Start-clause-made g c =
    turned c.args.actors c.args.state.now c.start.new.state c.args.seat c.in-Start.is c.start.result
    (c.start.ensures.made [])

pub returns-in-Start-clause-sure : goal.returns-in-Start-clause-sure
returns-in-Start-clause-sure g c = λ sure.
    absurd (no_deliver_by c.args.actors c.args.state.now c.start.new.state c.args.seat c.in-Start.is (λ no. no) sure)

pub returns-in-Take-clause-made : goal.returns-in-Take-clause-made
unfolding step
returns-in-Take-clause-made g c =
    turned c.args.actors c.args.state.now c.take.new.state c.args.seat c.in-Take.is c.take.result
    (c.take.ensures.made [])

pub returns-in-Take-clause-sure : goal.returns-in-Take-clause-sure
returns-in-Take-clause-sure g c = λ sure.
    absurd (no_deliver_by c.args.actors c.args.state.now c.take.new.state c.args.seat c.in-Take.is (λ no. no) sure)

pub returns-in-Up-clause-made : goal.returns-in-Up-clause-made
unfolding step
returns-in-Up-clause-made g c =
    turned c.args.actors c.args.state.now c.rise.new.state c.args.seat c.in-Up.is c.rise.result c.rise.ensures.made

pub returns-in-Up-clause-sure : goal.returns-in-Up-clause-sure
returns-in-Up-clause-sure g c = λ sure.
    absurd (no_deliver_by c.args.actors c.args.state.now c.rise.new.state c.args.seat c.in-Up.is (λ no. no) sure)

pub returns-in-Reap-clause-made : goal.returns-in-Reap-clause-made
unfolding step
returns-in-Reap-clause-made g c =
    made_by c.args.actors c.args.state.now c.reap.new.state c.args.seat c.in-Reap.is outcomes.Ran
    (c.reap.ensures.made [])

pub returns-in-Reap-clause-bytes : goal.returns-in-Reap-clause-bytes
returns-in-Reap-clause-bytes g c =
    c.reap.ensures.logged [] c.requires.bytes

pub returns-in-Wash-clause-made : goal.returns-in-Wash-clause-made
unfolding step
returns-in-Wash-clause-made g c =
    made_by c.args.actors c.args.state.now c.wash.new.state c.args.seat c.in-Wash.is outcomes.Ran
    (c.wash.ensures.made [])

pub returns-in-Deliver-clause-made : goal.returns-in-Deliver-clause-made
unfolding step
returns-in-Deliver-clause-made g c =
    made_by c.args.actors c.args.state.now c.deliver_kept.new.state c.args.seat c.in-Deliver.is outcomes.Delivered
    (c.deliver_kept.ensures.made [])

pub returns-in_ok-event-in-Event-clause-made : goal.returns-in_ok-event-in-Event-clause-made
unfolding step
returns-in_ok-event-in-Event-clause-made g c =
    made_by c.args.actors c.args.state.now c.event.new.state c.args.seat c.in-Event.is outcomes.Ran
    (c.in_ok-event-in-Event.ensures.made [])

pub returns-in_err-event-in-Event-clause-sure : goal.returns-in_err-event-in-Event-clause-sure
returns-in_err-event-in-Event-clause-sure g c = λ sure.
    absurd (no_deliver_by c.args.actors c.args.state.now c.event.new.state c.args.seat c.in-Event.is (λ no. no) sure)

-- no bio names a place of a log
pub returns-in_ok-event-in-Event-clause-bytes : goal.returns-in_ok-event-in-Event-clause-bytes
returns-in_ok-event-in-Event-clause-bytes g c = c.event.ensures.logged [] c.requires.bytes

pub returns-in_err-event-in-Event-clause-bytes : goal.returns-in_err-event-in-Event-clause-bytes
returns-in_err-event-in-Event-clause-bytes g c = c.event.ensures.logged [] c.requires.bytes

pub returns-in-Judge-clause-bytes : goal.returns-in-Judge-clause-bytes
returns-in-Judge-clause-bytes g c = c.judge.ensures.logged [] c.requires.bytes

pub returns-in-Start-clause-bytes : goal.returns-in-Start-clause-bytes
returns-in-Start-clause-bytes g c = c.start.ensures.logged [] c.requires.bytes

pub returns-in-Take-clause-bytes : goal.returns-in-Take-clause-bytes
returns-in-Take-clause-bytes g c = c.take.ensures.logged [] c.requires.bytes

pub returns-in-Wash-clause-bytes : goal.returns-in-Wash-clause-bytes
returns-in-Wash-clause-bytes g c = c.wash.ensures.logged [] c.requires.bytes

pub returns-in-Deliver-clause-bytes : goal.returns-in-Deliver-clause-bytes
returns-in-Deliver-clause-bytes g c = c.deliver_kept.ensures.logged [] c.requires.bytes
