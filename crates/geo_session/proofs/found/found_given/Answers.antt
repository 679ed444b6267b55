use Rattle.std.proofs.Common.{◌∙◌, ap, sym, []}
use Rattle.geo_state.specs.Steps.{against}
use Rattle.geo_session.proofs.Answered.{before, beyond, waiting}
use Rattle.geo_session.proofs.found.found_given.Goals as goal

pub returns-then-line-actors : goal.returns-then-line-actors
returns-then-line-actors c =
    let s = c.args.state.now in
    waiting c.args.actors s c.args.line.now c.if-line-actors.true
    ∙ sym (c.wait_found.ensures (before c.args.actors s c.args.line.now).actors [])

pub returns-else-line-actors : goal.returns-else-line-actors
returns-else-line-actors c =
    ap against (beyond c.args.actors c.args.state.now c.args.line.now c.if-line-actors.false)
