use Rattle.geo_laws_counts.proofs.LimitFacts.{exclusive_means}
use Rattle.geo_laws_counts.proofs.limits.limits_mean.Goals as goal

pub returns-clause-exclusive : goal.returns-clause-exclusive
returns-clause-exclusive g c = exclusive_means
