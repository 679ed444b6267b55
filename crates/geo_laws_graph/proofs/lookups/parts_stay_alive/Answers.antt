use Rattle.geo_laws_graph.proofs.Living.{parts-alive}
use Rattle.geo_laws_graph.proofs.lookups.parts_stay_alive.Goals as goal

pub returns : goal.returns
returns g c = parts-alive
