use Rattle.geo_laws_graph.proofs.Walks.{walks-meet}
use Rattle.geo_laws_graph.proofs.lookups.walks_meet_all.Goals as goal

pub returns : goal.returns
returns g c = walks-meet
