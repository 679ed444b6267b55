use Rattle.geo_connection.specs.declared.stage.Stage.TheVariants as stages
use Rattle.geo_serving.specs.Courses.{Course}
use Rattle.geo_serving.specs.Points.{hears}
use Rattle.geo_tags.specs.Tags.{TaggedView}
use Rattle.geo_serving.proofs.talk.handshake.Given as goal

-- the handshake so far
abbrev pub invariant-talk : goal.invariant-talk
invariant-talk g l = (mesh : TaggedView) → Course (hears l.exports stages.Flags mesh)
    (g.S.Source.view l.fn.source) (g.K.Sink.view l.fn.sink) (hears l.exports l.stage mesh)
    (g.S.Source.view l.source) (g.K.Sink.view l.sink)
