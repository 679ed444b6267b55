use Rattle.std.proofs.Common.{sym, ◌∙◌, true, false}
use Rattle.geo_moves.proofs.Doing.{close_decided}
use Rattle.geo_moves.proofs.decisions.close_decision.Goals as goal

pub returns-then-is_closed : goal.returns-then-is_closed
returns-then-is_closed c actors log =
    close_decided c.args.state.now c.args.actor c.args.name.now actors log true
    (sym c.if-is_closed.true ∙ c.is_closed.ensures actors log)

pub returns-else-is_closed : goal.returns-else-is_closed
returns-else-is_closed c actors log =
    close_decided c.args.state.now c.args.actor c.args.name.now actors log false
    (sym c.if-is_closed.false ∙ c.is_closed.ensures actors log)
