use Rattle.std.proofs.Common.{Option}
use Rattle.geo_connection.specs.declared.stage.Stage.TheVariants as stages
use Rattle.geo_serving.specs.declared.talk.Chosen.{Chosen}
use Rattle.geo_serving.specs.Points.{chosen_point, hears}
use Rattle.geo_serving.proofs.Sessions.{course_ok, ends_on}
use Rattle.geo_serving.proofs.session.serve_greeted.Goals as goal

-- behind the handshake
pub returns-in-Ok : goal.returns-in-Ok
returns-in-Ok g c =
    let exports = c.args.exports.now in
    let mesh = c.args.desk.now.mesh in
    let f = g.S.Source.view c.args.source.now in
    let t = g.K.Sink.view c.args.sink.now in
    let r = g.S.Source.view c.handshake.new.source in
    let w = g.K.Sink.view c.handshake.new.sink in
    ends_on (hears exports stages.Flags mesh) (chosen_point exports mesh c.in-Ok.chosen) f r
    (g.S.Source.view c.serve_chosen.new.source) t w (g.K.Sink.view c.serve_chosen.new.sink) c.serve_chosen.result
    (course_ok (hears exports stages.Flags mesh) (λ (x : Option Chosen). chosen_point exports mesh x) f r t w
    c.handshake.result c.in-Ok.chosen c.in-Ok.is (c.handshake.ensures mesh))
    c.serve_chosen.ensures
