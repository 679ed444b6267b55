use Rattle.std.proofs.Common.{sym, ◌∙◌, true, false}
use Rattle.geo_moves.proofs.Doing.{settle_waits}
use Rattle.geo_moves.proofs.waits.settle_found.Goals as goal

pub returns-then-is_unsettled : goal.returns-then-is_unsettled
returns-then-is_unsettled c actors log actor =
    settle_waits c.args.state.now actors log actor true
    (sym c.if-is_unsettled.true ∙ c.is_unsettled.ensures actors log)

pub returns-else-is_unsettled : goal.returns-else-is_unsettled
returns-else-is_unsettled c actors log actor =
    settle_waits c.args.state.now actors log actor false
    (sym c.if-is_unsettled.false ∙ c.is_unsettled.ensures actors log)
