use Rattle.std.proofs.Common.{[], refl}
use Rattle.geo_tests_runs.proofs.bench.in_elevator_order.Goals as goal

pub sweep_to_rest-answer-requires-clause-heads : goal.sweep_to_rest-answer-requires-clause-heads
sweep_to_rest-answer-requires-clause-heads c = ([], (c.args.mesh.now.log, refl), c.in_ok-heads.ensures)
