use Rattle.std.proofs.Common.{◌≡◌, Ok, Some}
use Rattle.geo_connection.specs.declared.stage.Stage.TheVariants as stages
use Rattle.geo_serving.specs.declared.talk.Talk.TheVariants as talks
use Rattle.geo_serving.specs.Points.{chosen_point, hears, over}
use Rattle.geo_serving.proofs.Running.{course_and_one, course_none, halted_at}
use Rattle.geo_serving.proofs.Talking.{talk_halts, talks_on}
use Rattle.geo_serving.proofs.talk.handshake.Goals as goal

-- no message yet
pub talk-init : goal.talk-init
talk-init g c = λ mesh.
    course_none (hears c.args.exports.now stages.Flags mesh) (g.S.Source.view c.args.source.now)
    (g.K.Sink.view c.args.sink.now)

-- one message more
pub talk-preserved : goal.talk-preserved
talk-preserved g c = λ mesh.
    let is : c.exchange.result ≡ Ok (talks.On c.in-Ok-On.next) = cc in
    course_and_one (hears c.args.exports.now stages.Flags mesh) (hears c.args.exports.now c.talk.stage mesh)
    (hears c.args.exports.now c.in-Ok-On.next mesh) (g.S.Source.view c.args.source.now)
    (g.S.Source.view c.talk.source) (g.S.Source.view c.exchange.new.source) (g.K.Sink.view c.args.sink.now)
    (g.K.Sink.view c.talk.sink) (g.K.Sink.view c.exchange.new.sink) (c.talk.invariant mesh)
    (talks_on c.args.exports.now c.talk.stage mesh (g.S.Source.view c.talk.source)
    (g.S.Source.view c.exchange.new.source) (g.K.Sink.view c.talk.sink) (g.K.Sink.view c.exchange.new.sink)
    c.exchange.result (talks.On c.in-Ok-On.next) is (c.exchange.ensures mesh))

-- the last message
pub returns-in-Ok-Serves : goal.returns-in-Ok-Serves
returns-in-Ok-Serves g c = λ mesh.
    let is : c.exchange.result ≡ Ok (talks.Serves c.in-Ok-Serves.chosen) = cc in
    course_and_one (hears c.args.exports.now stages.Flags mesh) (hears c.args.exports.now c.talk.stage mesh)
    (chosen_point c.args.exports.now mesh (Some c.in-Ok-Serves.chosen)) (g.S.Source.view c.args.source.now)
    (g.S.Source.view c.talk.source) (g.S.Source.view c.exchange.new.source) (g.K.Sink.view c.args.sink.now)
    (g.K.Sink.view c.talk.sink) (g.K.Sink.view c.exchange.new.sink) (c.talk.invariant mesh)
    (talks_on c.args.exports.now c.talk.stage mesh (g.S.Source.view c.talk.source)
    (g.S.Source.view c.exchange.new.source) (g.K.Sink.view c.talk.sink) (g.K.Sink.view c.exchange.new.sink)
    c.exchange.result (talks.Serves c.in-Ok-Serves.chosen) is (c.exchange.ensures mesh))

pub returns-in-Ok-Ends : goal.returns-in-Ok-Ends
returns-in-Ok-Ends g c = λ mesh.
    let is : c.exchange.result ≡ Ok talks.Ends = cc in
    course_and_one (hears c.args.exports.now stages.Flags mesh) (hears c.args.exports.now c.talk.stage mesh)
    over (g.S.Source.view c.args.source.now)
    (g.S.Source.view c.talk.source) (g.S.Source.view c.exchange.new.source) (g.K.Sink.view c.args.sink.now)
    (g.K.Sink.view c.talk.sink) (g.K.Sink.view c.exchange.new.sink) (c.talk.invariant mesh)
    (talks_on c.args.exports.now c.talk.stage mesh (g.S.Source.view c.talk.source)
    (g.S.Source.view c.exchange.new.source) (g.K.Sink.view c.talk.sink) (g.K.Sink.view c.exchange.new.sink)
    c.exchange.result talks.Ends is (c.exchange.ensures mesh))

pub returns-in-Err : goal.returns-in-Err
returns-in-Err g c = λ mesh.
    halted_at (hears c.args.exports.now stages.Flags mesh) (hears c.args.exports.now c.talk.stage mesh)
    (g.S.Source.view c.args.source.now) (g.S.Source.view c.talk.source) (g.S.Source.view c.exchange.new.source)
    (g.K.Sink.view c.args.sink.now) (g.K.Sink.view c.talk.sink) (g.K.Sink.view c.exchange.new.sink) c.in-Err.halt
    (c.talk.invariant mesh)
    (talk_halts c.args.exports.now c.talk.stage mesh (g.S.Source.view c.talk.source)
    (g.S.Source.view c.exchange.new.source) (g.K.Sink.view c.talk.sink) (g.K.Sink.view c.exchange.new.sink)
    c.exchange.result c.in-Err.halt c.in-Err.is (c.exchange.ensures mesh))
