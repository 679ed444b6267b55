use Rattle.geo_laws_counts.proofs.Reach.{differing_stays}
use Rattle.geo_laws_counts.proofs.demands.grants_change_below.Goals as goal

pub returns : goal.returns
returns g c = differing_stays
