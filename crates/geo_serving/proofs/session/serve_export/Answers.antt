use Rattle.std.proofs.Common.{sym, ◌∙◌}
use Rattle.geo_serving.proofs.Sessions.{no_handle}
use Rattle.geo_serving.proofs.session.serve_export.Goals as goal

pub returns-in-None : goal.returns-in-None
returns-in-None g c =
    no_handle c.args.exports.now c.args.desk.now.mesh c.args.chosen (g.S.Source.view c.args.source.now)
    (g.K.Sink.view c.args.sink.now) (sym c.handle_at.ensures.handle ∙ c.in-None.is)
