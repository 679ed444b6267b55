use Rattle.geo_laws_graph.proofs.Found.{attached-found, detached-found, marks-found}
use Rattle.geo_laws_graph.proofs.lookups.changed_consumer_is_found.Goals as goal

pub returns : goal.returns
returns g c = record { attached = attached-found; detached = detached-found; marks = marks-found }
