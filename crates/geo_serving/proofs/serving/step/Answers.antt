use Rattle.geo_serving.proofs.Turning.{does_step, over_step}
use Rattle.geo_serving.proofs.serving.step.Goals as goal

-- a turn
pub returns-in-Does-clause-makes : goal.returns-in-Does-clause-makes
returns-in-Does-clause-makes g c =
    does_step c.args.client.now c.take_turn.new.client c.args.desk.now.mesh c.take_turn.new.desk.mesh c.args.doing
    c.in-Does.turn (g.S.Source.view c.args.source.now) (g.K.Sink.view c.args.sink.now)
    (g.K.Sink.view c.take_turn.new.sink) c.take_turn.result c.in-Does.is
    (c.take_turn.ensures.makes (g.S.Source.view c.args.source.now))

-- the end
pub returns-in-Over-clause-makes : goal.returns-in-Over-clause-makes
returns-in-Over-clause-makes g c =
    over_step c.args.client.now c.args.desk.now.mesh c.args.doing (g.S.Source.view c.args.source.now)
    (g.K.Sink.view c.args.sink.now) c.in-Over.is
