use Rattle.std.proofs.Common.{subst, rules}
use Rattle.geo_model.specs.declared.step.Outcome.TheVariants as outcomes
use Rattle.geo_model.specs.declared.step.Step.{Step}
use Rattle.geo_model.specs.Step.{step}
use Rattle.geo_state.specs.World.{world}
use Rattle.geo_moves.proofs.Doing.{logged_same}
use Rattle.geo_core.specs.Left.{left_of}
use Rattle.geo_core.specs.Mesh.{IsSure}
use Rattle.geo_core.proofs.Meshes.{longer_bytes}
use Rattle.geo_core.proofs.Making.{none_by, go_next_of, go_moves, more_bytes, all_bytes, closes_by, ready_go, is_down_now, is_up_now, turn_moves, turn_unsure, step_turned, deliver_moves}
use Rattle.geo_core.proofs.carry.make.Goals as goal

pub go-requires-clause-found : goal.go-requires-clause-found
go-requires-clause-found g c =
    none_by c.args.plan.now.commands c.args.left.now c.args.state.now c.args.seat c.in-Go.is c.requires.found

pub go-requires-clause-ready : goal.go-requires-clause-ready
go-requires-clause-ready g c =
    ready_go c.args.plan.now.commands c.args.left.now c.args.state.now c.in-Go.is c.in-Some.is c.requires.ready

-- nothing is against the Go, so there is a next command, and for that something was decided
pub unreachable-requires : goal.unreachable-requires
unreachable-requires g c =
    let none = ready_go c.args.plan.now.commands c.args.left.now c.args.state.now c.in-Go.is c.in-None.is
    c.requires.ready in
    let found =
    none_by c.args.plan.now.commands c.args.left.now c.args.state.now c.args.seat c.in-Go.is c.requires.found in
    let next = go_next_of c.args.plan.now.commands c.args.left.now c.args.state.now c.in-Go.actor found in
    none next.0 next.1

-- what the Go did is what the step does, whose seat doesn't matter
pub returns-in-Some-clause-made : goal.returns-in-Some-clause-made
returns-in-Some-clause-made g c =
    go_moves c.args.plan.now.commands c.args.log.now.items c.args.left.now c.go.new.left c.args.state.now c.go.new.state
    c.args.seat c.in-Go.actor c.args.step.now c.go.result c.in-Go.is
    (c.go.ensures.logged c.args.log.now.items c.requires.logged) (c.go.ensures.made c.args.log.now.items)

-- the bytes that bios name in the log stay where they are with one entry more
pub returns-in-Some-clause-logged : goal.returns-in-Some-clause-logged
returns-in-Some-clause-logged g c =
    more_bytes c.args.log.now.items c.go.new.state c.go.result
    (c.go.ensures.logged c.args.log.now.items c.requires.logged)

pub returns-in-Some-clause-bytes : goal.returns-in-Some-clause-bytes
returns-in-Some-clause-bytes g c =
    all_bytes c.args.log.now.items c.go.new.state c.go.result
    (c.go.ensures.logged c.args.log.now.items c.requires.logged)

pub returns-in-Some-clause-sure : goal.returns-in-Some-clause-sure
returns-in-Some-clause-sure g c = λ sure.
    let w = world (left_of c.args.plan.now.commands c.args.left.now) c.args.log.now.items c.args.state.now in
    let closes = subst (λ (st : Step). IsSure w c.args.seat st) c.in-Go.is sure in
    c.go.ensures.sure c.args.log.now.items (closes_by w c.args.seat 0 c.in-Go.actor closes)

-- For each other step: what is enabled for the step of the seat is due for what it does
pub event-requires-clause-due : goal.event-requires-clause-due
unfolding step
event-requires-clause-due g c =
    none_by c.args.plan.now.commands c.args.left.now c.args.state.now c.args.seat c.in-Event.is c.requires.found

pub judge-requires-clause-due : goal.judge-requires-clause-due
unfolding step
judge-requires-clause-due g c =
    none_by c.args.plan.now.commands c.args.left.now c.args.state.now c.args.seat c.in-Judge.is c.requires.found

pub reap-requires-clause-due : goal.reap-requires-clause-due
unfolding step
reap-requires-clause-due g c =
    none_by c.args.plan.now.commands c.args.left.now c.args.state.now c.args.seat c.in-Reap.is c.requires.found

pub wash-requires-clause-due : goal.wash-requires-clause-due
unfolding step
wash-requires-clause-due g c =
    none_by c.args.plan.now.commands c.args.left.now c.args.state.now c.args.seat c.in-Wash.is c.requires.found

pub take-requires-clause-enabled : goal.take-requires-clause-enabled
unfolding step
take-requires-clause-enabled g c =
    none_by c.args.plan.now.commands c.args.left.now c.args.state.now c.args.seat c.in-Take.is c.requires.found

pub deliver-requires-clause-enabled : goal.deliver-requires-clause-enabled
unfolding step
deliver-requires-clause-enabled g c =
    none_by c.args.plan.now.commands c.args.left.now c.args.state.now c.args.seat c.in-Deliver.is c.requires.found

-- a bio in another phase, or none, would be against the Start
pub start-requires-clause-down : goal.start-requires-clause-down
start-requires-clause-down g c =
    is_down_now c.args.state.now c.args.seat c.in-Start.bio
    (none_by c.args.plan.now.commands c.args.left.now c.args.state.now c.args.seat c.in-Start.is c.requires.found)

-- a bio in another phase, or none, would be against the Up
pub up-requires-clause-up : goal.up-requires-clause-up
up-requires-clause-up g c =
    is_up_now c.args.state.now c.args.seat c.in-Up.bio
    (none_by c.args.plan.now.commands c.args.left.now c.args.state.now c.args.seat c.in-Up.is c.requires.found)

-- From here on: what was made is what the step does in the model, and the bytes that bios name in the log are there
-- still with one entry more
pub returns-in-Judge : goal.returns-in-Judge
unfolding step
returns-in-Judge g c =
    let log = c.args.log.now.items in
    let turned =
    step_turned c.args.plan.now.commands log c.args.left.now c.args.state.now c.judge.new.state c.args.seat
    c.in-Judge.is c.judge.result (λ no. no) (c.judge.ensures.logged log c.requires.logged) (c.judge.ensures.made log) in
    assumption (turned, c.judge.ensures, c.requires)

pub returns-in-Start : goal.returns-in-Start
unfolding step
returns-in-Start g c =
    let log = c.args.log.now.items in
    let turned =
    step_turned c.args.plan.now.commands log c.args.left.now c.args.state.now c.start.new.state c.args.seat
    c.in-Start.is c.start.result (λ no. no) (c.start.ensures.logged log c.requires.logged) (c.start.ensures.made log) in
    assumption (turned, c.start.ensures, c.requires)

pub returns-in-Take : goal.returns-in-Take
unfolding step
returns-in-Take g c =
    let log = c.args.log.now.items in
    let turned =
    step_turned c.args.plan.now.commands log c.args.left.now c.args.state.now c.take.new.state c.args.seat c.in-Take.is
    c.take.result (λ no. no) (c.take.ensures.logged log c.requires.logged) (c.take.ensures.made log) in
    assumption (turned, c.take.ensures, c.requires)

pub returns-in-Up : goal.returns-in-Up
unfolding step
returns-in-Up g c =
    let log = c.args.log.now.items in
    let turned =
    step_turned c.args.plan.now.commands log c.args.left.now c.args.state.now c.up.new.state c.args.seat c.in-Up.is
    c.up.result (λ no. no) (c.up.ensures.logged log c.requires.logged) c.up.ensures.made in
    assumption (turned, c.up.ensures, c.requires)

pub returns-in-Reap-clause-made : goal.returns-in-Reap-clause-made
unfolding step
returns-in-Reap-clause-made g c =
    let log = c.args.log.now.items in
    turn_moves c.args.plan.now.commands log c.args.left.now c.args.state.now c.reap.new.state c.args.seat c.in-Reap.is
    outcomes.Ran (logged_same c.args.state.now c.reap.new.state c.reap.ensures.traffic log c.requires.logged)
    (c.reap.ensures.made log)

pub returns-in-Reap-clause-logged : goal.returns-in-Reap-clause-logged
returns-in-Reap-clause-logged g c = search (rules, longer_bytes, logged_same, c.reap.ensures.traffic, c.requires.logged)

pub returns-in-Wash-clause-made : goal.returns-in-Wash-clause-made
unfolding step
returns-in-Wash-clause-made g c =
    let log = c.args.log.now.items in
    turn_moves c.args.plan.now.commands log c.args.left.now c.args.state.now c.wash.new.state c.args.seat c.in-Wash.is
    outcomes.Ran (c.wash.ensures.logged log c.requires.logged)
    (c.wash.ensures.made log)

pub returns-in-Wash-clause-logged : goal.returns-in-Wash-clause-logged
returns-in-Wash-clause-logged g c = search (rules, longer_bytes, c.wash.ensures.logged, c.requires.logged)

pub returns-in_ok-event-in-Event-clause-made : goal.returns-in_ok-event-in-Event-clause-made
unfolding step
returns-in_ok-event-in-Event-clause-made g c =
    let log = c.args.log.now.items in
    turn_moves c.args.plan.now.commands log c.args.left.now c.args.state.now c.event.new.state c.args.seat c.in-Event.is
    outcomes.Ran (c.event.ensures.logged log c.requires.logged) (c.in_ok-event-in-Event.ensures.made log)

pub returns-in_ok-event-in-Event-clause-logged : goal.returns-in_ok-event-in-Event-clause-logged
returns-in_ok-event-in-Event-clause-logged g c = search (rules, longer_bytes, c.event.ensures.logged, c.requires.logged)

pub returns-in_err-event-in-Event-clause-sure : goal.returns-in_err-event-in-Event-clause-sure
returns-in_err-event-in-Event-clause-sure g c = λ sure.
    absurd
    (turn_unsure c.args.plan.now.commands c.args.log.now.items c.args.left.now c.args.state.now c.event.new.state
    c.args.seat c.in-Event.is (λ no. no) sure)

pub returns-in_err-event-in-Event-clause-bytes : goal.returns-in_err-event-in-Event-clause-bytes
returns-in_err-event-in-Event-clause-bytes g c =
    search (rules, all_bytes, c.event.ensures.logged c.args.log.now.items c.requires.logged)

-- the entry that comes next is that of the Deliver, so the bio may name its bytes by it
pub returns-in-Deliver-clause-made : goal.returns-in-Deliver-clause-made
returns-in-Deliver-clause-made g c = search (rules, deliver_moves, c.in-Deliver.is, c.deliver.ensures.made)
