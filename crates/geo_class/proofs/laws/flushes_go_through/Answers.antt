use Rattle.geo_class.proofs.TargetLemmas.{flushes_go_through}
use Rattle.geo_class.proofs.laws.flushes_go_through.Goals as goal

pub returns : goal.returns
returns g c = flushes_go_through
