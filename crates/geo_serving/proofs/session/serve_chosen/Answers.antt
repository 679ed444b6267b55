use Rattle.geo_serving.proofs.Sessions.{none_chosen}
use Rattle.geo_serving.proofs.session.serve_chosen.Goals as goal

pub returns-in-None : goal.returns-in-None
returns-in-None g c =
    none_chosen c.args.exports.now c.args.desk.now.mesh c.args.chosen (g.S.Source.view c.args.source.now)
    (g.K.Sink.view c.args.sink.now) c.in-None.is
