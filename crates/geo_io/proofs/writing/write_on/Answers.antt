use Rattle.geo_io.proofs.SinkLemmas.{takes_on}
use Rattle.geo_io.proofs.writing.write_on.Goals as goal

pub returns-in-Ok-clause-grown : goal.returns-in-Ok-clause-grown
returns-in-Ok-clause-grown g c =
    takes_on (g.K.Sink.view c.args.sink.now) (g.K.Sink.view c.write.new.self) c.args.done c.in-Ok.count
    c.args.bytes.now c.in-Ok.ensures.bytes
