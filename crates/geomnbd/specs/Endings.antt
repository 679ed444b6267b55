-- How the program ends.
use Rattle.std.specs.Prelude.{◌≡◌, List}
use Rattle.geo_io.specs.Sink.{SinkView}
use Rattle.geo_io.specs.Source.{SourceView}
use Rattle.geo_nbd.specs.declared.export.Export.{Export}
use Rattle.geo_serving.specs.Courses.{Course, Halted}
use Rattle.geo_serving.specs.Points.{greets, over}
use Rattle.geo_serving.specs.declared.halt.Halt.{Halt}
use Rattle.geo_tags.specs.Tags.{TaggedView}
use Rattle.geomnbd.specs.declared.end.End.{End}
use Rattle.geomnbd.specs.declared.end.End.TheVariants as ends

-- a mesh was made and exports were offered, and the session over them was over, or it halted
pub record IsOver (source : SourceView) (sink : SinkView) (read : SourceView) (written : SinkView) : Type 0 where
  pub exports : List Export
  pub mesh : TaggedView
  pub course : Course (greets exports mesh) source sink over read written

pub record Halts (halt : Halt) (source : SourceView) (sink : SinkView) (read : SourceView) (written : SinkView)
    : Type 0 where
  pub exports : List Export
  pub mesh : TaggedView
  pub halted : Halted (greets exports mesh) source sink halt read written

-- or the program stopped before the session, and nothing was read of the client and nothing written
abbrev pub EndsAs : End → SourceView → SinkView → SourceView → SinkView → Type 0
EndsAs ends.Over source sink read written = IsOver source sink read written
EndsAs (ends.Halted halt) source sink read written = Halts halt source sink read written
EndsAs (ends.Stopped stop) source sink read written = (read ≡ source) × (written ≡ sink)
