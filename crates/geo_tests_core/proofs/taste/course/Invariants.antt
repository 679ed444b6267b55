use Rattle.geo_taste.specs.Taster.{IsSettled, IsTasteOf}
use Rattle.geo_tests_core.proofs.taste.course.Given as goal

abbrev pub invariant-loop : goal.invariant-loop
invariant-loop g l = IsSettled l.topo × IsTasteOf l.topo l.taste
