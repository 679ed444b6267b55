use Rattle.std.proofs.Common.{arith}
use Rattle.geo_moves.proofs.Stepping.{reap-done, reap-steps}
use Rattle.geo_moves.proofs.reaps.reap.Goals as goal

-- the first handle that is noted as ready is the first that the model can reap
pub returns-clause-made : goal.returns-clause-made
returns-clause-made g c =
    λ log actors. reap-done c.args.state.now c.requires.stands c.next_dead-id.result
    c.next_dead-id.ensures c.let_go.new.state c.let_go.ensures.made actors log

-- the handle is the model's, so its consumer's provider is the one whose consumers below are counted
pub returns-clause-bound : goal.returns-clause-bound
returns-clause-bound g c =
    λ actors log.
    let same = reap-steps c.args.state.now c.requires.stands c.next_dead-id.result
    c.next_dead-id.ensures c.consumer_of_dead-cons.result c.consumer_of_dead-cons.ensures actors log in
    let most = c.let_go.ensures.bound in
    omega (arith, same, most)
