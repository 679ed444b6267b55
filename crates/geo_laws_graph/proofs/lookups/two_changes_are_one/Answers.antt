use Rattle.geo_laws_graph.proofs.TwoChanges.{two-changes}
use Rattle.geo_laws_graph.proofs.lookups.two_changes_are_one.Goals as goal

pub returns : goal.returns
returns g c = two-changes
