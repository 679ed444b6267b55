use Rattle.geo_laws_graph.proofs.RankChanges.{attach-rises, opening-rises, detach-lowers, removal-lowers}
use Rattle.geo_laws_graph.proofs.rank_changes.ranks_rise.Goals as goal

pub returns : goal.returns
returns g c = record {
  attach = λ t k p can ranked live order none. attach-rises t k p can ranked live order none;
  opening = λ t geom p x ranked live there found none. opening-rises t geom p x ranked live there found none;
  detach = λ t k at ranked live order. detach-lowers t k at ranked live order;
  removal = λ t k at ranked live order. removal-lowers t k at ranked live order;
}
