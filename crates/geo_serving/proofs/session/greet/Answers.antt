use Rattle.std.proofs.Common.{[], refl}
use Rattle.geo_connection.specs.declared.stage.Stage.TheVariants as stages
use Rattle.geo_nbd.specs.declared.numbers.TheConstants.{GREETING}
use Rattle.geo_serving.specs.Points.{greets, hears}
use Rattle.geo_serving.proofs.Halting.{halts_writing}
use Rattle.geo_serving.proofs.Nothing.{gives_none}
use Rattle.geo_serving.proofs.Running.{course_one, halted_first}
use Rattle.geo_serving.proofs.session.greet.Goals as goal

-- the first step
pub returns-in-Ok : goal.returns-in-Ok
returns-in-Ok g c = λ exports mesh source.
    course_one (greets exports mesh) (hears exports stages.Flags mesh) source source
    (g.K.Sink.view c.args.sink.now) (g.K.Sink.view c.say.new.sink)
    (record {
      bytes = [];
      said = GREETING;
      step = (refl, refl, refl);
      gives = gives_none source;
      takes = c.in-Ok.ensures;
    })

pub returns-in-Err : goal.returns-in-Err
returns-in-Err g c = λ exports mesh source.
    halted_first (greets exports mesh) source source (g.K.Sink.view c.args.sink.now) (g.K.Sink.view c.say.new.sink)
    c.in-Err.halt
    (halts_writing (greets exports mesh) (hears exports stages.Flags mesh) GREETING c.in-Err.halt source
    (g.K.Sink.view c.args.sink.now) (g.K.Sink.view c.say.new.sink) (λ bytes none. (none, refl, refl)) c.in-Err.ensures)
