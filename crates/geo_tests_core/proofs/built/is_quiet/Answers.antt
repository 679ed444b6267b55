use Rattle.std.proofs.Common.{sym, ◌∙◌}
use Rattle.geo_tests_core.proofs.Building.{quiet_found, none_said}
use Rattle.geo_tests_core.proofs.built.is_quiet.Goals as goal

pub returns-then-is_none : goal.returns-then-is_none
returns-then-is_none g c = λ e.
    quiet_found c.args.topo.now c.requires
    (sym c.first_risen.ensures.first
    ∙ none_said c.first_risen.result c.is_none.result c.is_none.ensures c.if-is_none.true)
    (sym c.first_fallen.ensures.first
    ∙ none_said c.first_fallen.result c.is_none-then-is_none.result c.is_none-then-is_none.ensures e)
