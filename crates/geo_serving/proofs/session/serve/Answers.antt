use Rattle.geo_connection.specs.declared.stage.Stage.TheVariants as stages
use Rattle.geo_serving.specs.Points.{greets, hears}
use Rattle.geo_serving.proofs.Sessions.{course_ok, ends_on}
use Rattle.geo_serving.proofs.session.serve.Goals as goal

-- behind the greeting
pub returns-in-Ok : goal.returns-in-Ok
returns-in-Ok g c =
    let exports = c.args.exports.now in
    let mesh = c.args.desk.now.mesh in
    let f = g.S.Source.view c.args.source.now in
    let t = g.K.Sink.view c.args.sink.now in
    let w = g.K.Sink.view c.greet.new.sink in
    ends_on (greets exports mesh) (hears exports stages.Flags mesh) f f (g.S.Source.view c.serve_greeted.new.source) t w
    (g.K.Sink.view c.serve_greeted.new.sink) c.serve_greeted.result
    (course_ok (greets exports mesh) (λ (x : Unit {0}). hears exports stages.Flags mesh) f f t w c.greet.result tt
    c.in-Ok.is (c.greet.ensures exports mesh f))
    c.serve_greeted.ensures
