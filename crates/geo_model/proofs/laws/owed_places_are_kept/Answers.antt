use Rattle.geo_model.proofs.NeverFull.{deliver-is_full, close-is_full}
use Rattle.geo_model.proofs.laws.owed_places_are_kept.Goals as goal

pub returns-clause-delivers : goal.returns-clause-delivers
returns-clause-delivers c = deliver-is_full

pub returns-clause-closes : goal.returns-clause-closes
returns-clause-closes c = close-is_full
