use Rattle.geo_laws_graph.proofs.Found.{each-found}
use Rattle.geo_laws_graph.proofs.lookups.each_is_found.Goals as goal

pub returns : goal.returns
returns g c = each-found
