use Rattle.geo_laws_graph.proofs.Found.{added-geom, added-provider, added-consumer}
use Rattle.geo_laws_graph.proofs.lookups.added_is_found.Goals as goal

pub returns : goal.returns
returns g c = record { geom = added-geom; provider = added-provider; consumer = added-consumer }
