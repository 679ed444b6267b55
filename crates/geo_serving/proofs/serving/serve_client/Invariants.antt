use Rattle.geo_serving.specs.Courses.{Course}
use Rattle.geo_serving.specs.Doings.{IsDoing}
use Rattle.geo_serving.specs.Points.{awaits, point_of}
use Rattle.geo_serving.proofs.serving.serve_client.Given as goal

-- the session so far
abbrev pub invariant-steps : goal.invariant-steps
invariant-steps g l = record {
  course : Course (awaits l.fn.client l.fn.desk.mesh) (g.S.Source.view l.fn.source) (g.K.Sink.view l.fn.sink)
      (point_of l.client l.desk.mesh l.doing) (g.S.Source.view l.source) (g.K.Sink.view l.sink);
  is_doing : IsDoing l.doing;
}
