use Rattle.std.proofs.Common.{◌∙◌}
use Rattle.geo_serving.proofs.Turning.{gives_turn, goes_turn, says_short}
use Rattle.geo_serving.proofs.serving.take_turn.Goals as goal

-- its command was given to the mesh
pub returns-in-Ok-clause-makes : goal.returns-in-Ok-clause-makes
returns-in-Ok-clause-makes g c = λ source.
    gives_turn c.args.client.now c.give_on.new.client c.args.desk.now.mesh c.give_on.new.desk.mesh c.args.turn
    c.in-Ok.following c.in-Gives.begun source (g.K.Sink.view c.args.sink.now) c.in-Gives.is c.in-Ok.ensures.size
    c.in-Ok.ensures.gives

-- the reply was written only in part
pub returns-in-Says-clause-makes : goal.returns-in-Says-clause-makes
returns-in-Says-clause-makes g c = λ source.
    says_short c.args.client.now c.args.desk.now.mesh c.args.turn c.in-Says.sent c.bytes-in-Says.result.now
    c.in-Err-say.halt source (g.K.Sink.view c.args.sink.now) (g.K.Sink.view c.say.new.sink) c.in-Says.is
    (c.bytes-in-Says.ensures ∙ c.into_block.ensures) c.in-Err-say.ensures

-- the step of the mesh was made
pub returns-in-Ok-go_on-clause-makes : goal.returns-in-Ok-go_on-clause-makes
returns-in-Ok-go_on-clause-makes g c = λ source.
    goes_turn c.args.client.now c.go_on.new.client c.args.desk.now.mesh c.go_on.new.desk.mesh c.args.turn
    c.in-Ok-go_on.following source (g.K.Sink.view c.args.sink.now) c.in-Moved.is c.in-Ok-go_on.ensures.size
    c.in-Ok-go_on.ensures.goes
