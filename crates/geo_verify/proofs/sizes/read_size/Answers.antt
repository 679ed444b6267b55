use Rattle.std.proofs.Common.{ap}
use Rattle.geo_laws_traces.proofs.Sizes.{memory_step}
use Rattle.geo_headline.specs.Outside.{is_shelf}
use Rattle.geo_headline.specs.Traces.{parts_of}
use Rattle.geo_laws_traces.proofs.Lines.{some_part}
use Rattle.geo_verify.proofs.sizes.read_size.Goals as goal

pub returns-in-Ram-clause-read : goal.returns-in-Ram-clause-read
returns-in-Ram-clause-read c =
    λ ds. memory_step c.args.place.line c.args.disk.now ds (parts_of c.args.place.text.now) (ap is_shelf c.in-Ram.is)
    (some_part c.args.place.text.now)
