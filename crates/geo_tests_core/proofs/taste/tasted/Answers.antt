use Rattle.geo_tests_core.proofs.Tasting.{built_settled}
use Rattle.geo_tests_core.proofs.taste.tasted.Goals as goal

pub taste_of-requires : goal.taste_of-requires
taste_of-requires g c = built_settled _ c.in_ok-prov.ensures
