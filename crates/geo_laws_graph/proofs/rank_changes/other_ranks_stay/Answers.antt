use Rattle.geo_laws_graph.proofs.Opens.{open-rises}
use Rattle.geo_laws_graph.proofs.rank_changes.other_ranks_stay.Goals as goal

pub returns : goal.returns
returns g c t geom p x ranked live there none found = open-rises t geom p x ranked live there none found
