use Rattle.std.proofs.Common.{length, []}
use Rattle.geo_base.proofs.Options.{on_error}
use Rattle.geo_model.specs.Commands.{asking}
use Rattle.geo_state.specs.Steps.{SameWorld}
use Rattle.geo_moves.proofs.Against.{same_moved}
use Rattle.geo_moves.proofs.Asking.{asks, does_refuse, does_accept, logged_accepted}
use Rattle.geo_moves.proofs.requests.request.Goals as goal

-- a handle that lets a request through is alive and has the consumer of the gate
pub submit_line-requires-clause-asking : goal.submit_line-requires-clause-asking
submit_line-requires-clause-asking c =
    asks c.args.state.now c.requires.kept c.in-Ok.gate
    (asking c.args.cmd c.args.span.offset c.args.span.len []) c.args.actor c.args.name.now c.in-Ok.ensures

-- the bios and their next number are as before, and nothing else is part of the world
pub returns-in_err-bio-in-Ok-clause-same : goal.returns-in_err-bio-in-Ok-clause-same
returns-in_err-bio-in-Ok-clause-same c =
    on_error (SameWorld c.args.state.now c.submit_line.new.state) c.from_residual.result
    (same_moved c.args.state.now c.submit_line.new.state c.submit_line.ensures.only c.in_err-bio-in-Ok.ensures.bios_stay
    c.in_err-bio-in-Ok.ensures.next_stays)

-- the handle lets the request through in the model too, which submits the same bio
pub returns-in_ok-bio-in-Ok-clause-does : goal.returns-in_ok-bio-in-Ok-clause-does
returns-in_ok-bio-in-Ok-clause-does c log =
    rw c.in_ok-bio-in-Ok.ensures.number
    (does_accept c.args.state.now c.args.line c.args.actor c.args.name.now c.args.cmd c.args.span.offset
    c.args.span.len c.args.bytes c.submit_line.new.state c.in-Ok.gate c.submit_line.ensures.only
    c.in_ok-bio-in-Ok.ensures.submitted c.in_ok-bio-in-Ok.ensures.next c.in-Ok.ensures log)

pub returns-in_ok-bio-in-Ok-clause-logged : goal.returns-in_ok-bio-in-Ok-clause-logged
returns-in_ok-bio-in-Ok-clause-logged c log logged =
    logged_accepted c.args.state.now c.args.line c.args.actor c.args.name.now c.args.cmd c.args.span.offset
    c.args.span.len c.args.bytes c.submit_line.new.state c.in-Ok.gate c.submit_line.ensures.only
    c.in_ok-bio-in-Ok.ensures.submitted c.in_ok-bio-in-Ok.ensures.next (length log) logged

pub returns-in-Err-clause-does : goal.returns-in-Err-clause-does
returns-in-Err-clause-does c log =
    does_refuse c.args.state.now c.args.line c.args.actor c.args.name.now c.args.cmd c.args.span.offset
    c.args.span.len c.args.bytes c.in-Err.errno c.in-Err.ensures log
