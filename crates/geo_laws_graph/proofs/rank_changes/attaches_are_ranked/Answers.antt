use Rattle.geo_laws_graph.proofs.RankChanges.{loop-ranked, loop-back, attach-accepted}
use Rattle.geo_laws_graph.proofs.rank_changes.attaches_are_ranked.Goals as goal

pub returns : goal.returns
returns g c = record {
  refused = λ t k p can ranked live order. loop-ranked t k p can ranked live order;
  way_back = λ t k p can ranked live order. loop-back t k p can ranked live order;
  accepted = λ t k p can ranked live order none. attach-accepted t k p can ranked live order none;
}
