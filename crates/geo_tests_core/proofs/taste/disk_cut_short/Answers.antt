use Rattle.geo_tests_core.proofs.Tasting.{built_settled}
use Rattle.geo_tests_core.proofs.taste.disk_cut_short.Goals as goal

pub cut_short-requires : goal.cut_short-requires
cut_short-requires g c = built_settled _ c.in_ok-prov.ensures
