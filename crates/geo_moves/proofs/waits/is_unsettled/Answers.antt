use Rattle.std.specs.Prelude.{◌||◌}
use Rattle.std.proofs.Common.{sym, ap, ◌∙◌}
use Rattle.geo_moves.proofs.Doing.{unsettled}
use Rattle.geo_moves.proofs.waits.is_unsettled.Goals as goal

-- nothing is under way, so it hangs on what can be freed
pub returns-else-is_under_way : goal.returns-else-is_under_way
returns-else-is_under_way c actors log =
    ap (λ b. b || c.can_be_freed.result) (sym c.if-is_under_way.false)
    ∙ unsettled c.args.state.now c.requires.stands c.is_under_way.result c.can_be_freed.result
    c.is_under_way.ensures c.can_be_freed.ensures actors log
