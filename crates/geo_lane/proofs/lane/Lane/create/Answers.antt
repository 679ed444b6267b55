use Rattle.geo_lane.proofs.Keeps.{opens}
use Rattle.geo_lane.proofs.lane.Lane.create.Goals as goal

pub ruled-requires-clause-rule : goal.ruled-requires-clause-rule
ruled-requires-clause-rule g c = opens
