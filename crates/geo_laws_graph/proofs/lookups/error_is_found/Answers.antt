use Rattle.geo_laws_graph.proofs.Found.{error-found}
use Rattle.geo_laws_graph.proofs.lookups.error_is_found.Goals as goal

pub returns : goal.returns
returns g c = error-found
