use Rattle.geo_laws_graph.proofs.Found.{removed-geom, removed-provider, removed-consumer}
use Rattle.geo_laws_graph.proofs.lookups.removed_is_gone.Goals as goal

pub returns : goal.returns
returns g c = record { geom = removed-geom; provider = removed-provider; consumer = removed-consumer }
