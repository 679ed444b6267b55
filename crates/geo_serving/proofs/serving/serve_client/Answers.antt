use Rattle.std.proofs.Common.{◌≡◌, Ok}
use Rattle.geo_serving.specs.declared.client.Doing.TheVariants as doings
use Rattle.geo_serving.specs.Points.{awaits, over, point_of}
use Rattle.geo_serving.proofs.Running.{course_and_one, course_none}
use Rattle.geo_serving.proofs.Turning.{steps_ok}
use Rattle.geo_serving.proofs.serving.serve_client.Goals as goal

-- no step yet
pub steps-init : goal.steps-init
steps-init g c = record {
  course =
      course_none (awaits c.args.client.now c.args.desk.now.mesh) (g.S.Source.view c.args.source.now)
      (g.K.Sink.view c.args.sink.now);
  is_doing = tt;
}

-- the last step
pub returns-in-Ok-Over : goal.returns-in-Ok-Over
returns-in-Ok-Over g c =
    let is : c.step.result ≡ Ok doings.Over = cc in
    course_and_one (awaits c.args.client.now c.args.desk.now.mesh)
    (point_of c.steps.client c.steps.desk.mesh c.steps.doing) over (g.S.Source.view c.args.source.now)
    (g.S.Source.view c.steps.source) (g.S.Source.view c.step.new.source) (g.K.Sink.view c.args.sink.now)
    (g.K.Sink.view c.steps.sink) (g.K.Sink.view c.step.new.sink) c.steps.invariant.course
    (steps_ok c.steps.client c.step.new.client c.steps.desk.mesh c.step.new.desk.mesh c.steps.doing doings.Over
    (g.S.Source.view c.steps.source) (g.S.Source.view c.step.new.source) (g.K.Sink.view c.steps.sink)
    (g.K.Sink.view c.step.new.sink) c.step.result is c.step.ensures.makes)

-- one step more
pub steps-preserved : goal.steps-preserved
steps-preserved g c = record {
  course =
      course_and_one (awaits c.args.client.now c.args.desk.now.mesh)
      (point_of c.steps.client c.steps.desk.mesh c.steps.doing)
      (point_of c.step.new.client c.step.new.desk.mesh c.in-Ok.following) (g.S.Source.view c.args.source.now)
      (g.S.Source.view c.steps.source) (g.S.Source.view c.step.new.source) (g.K.Sink.view c.args.sink.now)
      (g.K.Sink.view c.steps.sink) (g.K.Sink.view c.step.new.sink) c.steps.invariant.course c.in-Ok.ensures.makes;
  is_doing = c.in-Ok.ensures.is_doing;
}
