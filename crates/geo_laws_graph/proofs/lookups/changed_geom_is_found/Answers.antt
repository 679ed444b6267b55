use Rattle.geo_laws_graph.proofs.Found.{withering-found, config-found, start-found}
use Rattle.geo_laws_graph.proofs.lookups.changed_geom_is_found.Goals as goal

pub returns : goal.returns
returns g c = record { withering = withering-found; config = config-found; started = start-found }
