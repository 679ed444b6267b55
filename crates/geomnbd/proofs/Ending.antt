-- How a session over an offer ends.
use Rattle.std.proofs.Common.{List}
use Rattle.geo_io.specs.Sink.{SinkView}
use Rattle.geo_io.specs.Source.{SourceView}
use Rattle.geo_nbd.specs.declared.export.Export.{Export}
use Rattle.geo_serving.specs.declared.halt.Halt.{Halt}
use Rattle.geo_serving.specs.Courses.{Course, Halted}
use Rattle.geo_serving.specs.Points.{greets, over}
use Rattle.geo_tags.specs.Tags.{TaggedView}
use Rattle.geomnbd.specs.Endings.{Halts, IsOver}

-- it is over
pub is_over : {exports : List Export} {mesh : TaggedView} {f r : SourceView} {t w : SinkView}
    → Course (greets exports mesh) f t over r w → IsOver f t r w
is_over {exports} {mesh} c = record { exports = exports; mesh = mesh; course = c }

-- or it halts
pub it_halts : {exports : List Export} {mesh : TaggedView} {f r : SourceView} {t w : SinkView} {halt : Halt}
    → Halted (greets exports mesh) f t halt r w → Halts halt f t r w
it_halts {exports} {mesh} h = record { exports = exports; mesh = mesh; halted = h }
