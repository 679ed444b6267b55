use Rattle.geo_taste.specs.Taster.{IsSettled, IsTasteOf}
use Rattle.geo_tests_core.proofs.Tasting.{known_plain}
use Rattle.geo_tests_core.proofs.taste.step.Goals as goal

pub returns-clause-settled : goal.returns-clause-settled
returns-clause-settled g c plain =
    known_plain c.in_ok-judge_step.field-0 _ (IsSettled c.judge_step.new.topo) c.in_ok-judge_step.ensures.settled plain

pub returns-clause-tasting : goal.returns-clause-tasting
returns-clause-tasting g c plain =
    known_plain c.in_ok-judge_step.field-0 _ (IsTasteOf c.judge_step.new.topo c.judge_step.new.taste)
    c.in_ok-judge_step.ensures.tasting plain
