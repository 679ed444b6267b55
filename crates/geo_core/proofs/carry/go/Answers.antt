use Rattle.geo_core.specs.Left.{left_of}
use Rattle.geo_core.proofs.Admits.{not_ok, went, next_is_command, closes_surely}
use Rattle.geo_core.proofs.Making.{go_next_of}
use Rattle.geo_core.proofs.carry.go.Goals as goal

-- nothing is against the Go, so its actor has a next command
pub unreachable-requires : goal.unreachable-requires
unreachable-requires g c =
    let next = go_next_of c.args.plan.now.commands c.args.left.now c.args.state.now c.args.actor c.requires.found in
    let e = next.1 in
    cc (e, c.in_default.ensures)

-- the next command is one of those that are left
pub do_command-requires-clause-is_command : goal.do_command-requires-clause-is_command
do_command-requires-clause-is_command g c =
    next_is_command (left_of c.args.plan.now.commands c.args.left.now) c.args.actor c.in-Ok.line.now c.in-Ok.ensures
    c.requires.commands

pub do_command-requires-clause-decided : goal.do_command-requires-clause-decided
do_command-requires-clause-decided g c = c.requires.ready c.in-Ok.line.now c.in-Ok.ensures

-- a Go that is never refused is a close that is answered ok, and that takes no memory
pub returns-in_err-outcome-clause-sure : goal.returns-in_err-outcome-clause-sure
returns-in_err-outcome-clause-sure g c = λ log closes.
    let decided =
    closes_surely c.args.plan.now.commands c.args.left.now c.args.state.now log 0 c.args.actor c.args.decision closes
    c.requires.ready in
    let ok = c.do_command.ensures.no_memory decided in
    absurd (not_ok _ _ c.in_err-outcome.was ok)

-- the command did what it does, and the actor has those after it left
pub returns-clause-made : goal.returns-clause-made
returns-clause-made g c = λ log.
    went c.args.plan.now.commands c.args.left.now c.advance.new.self c.args.state.now c.do_command.new.state
    c.args.actor c.in-Ok.line.now c.in_ok-outcome.outcome log c.in-Ok.ensures (c.requires.found log)
    (c.in_ok-outcome.ensures.does log) c.advance.ensures.gone
