use Rattle.geo_laws_counts.proofs.Reach.{counters_are_counts}
use Rattle.geo_laws_counts.proofs.counts.counters_are_counts.Goals as goal

pub returns : goal.returns
returns g c granted t ranked known counter sums = counters_are_counts granted t ranked known counter sums
