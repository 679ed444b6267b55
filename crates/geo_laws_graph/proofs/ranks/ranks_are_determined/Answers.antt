use Rattle.geo_model.proofs.RankLemmas.{rank-largest}
use Rattle.geo_laws_graph.proofs.Climbing.{rank-only, rank_within-enough}
use Rattle.geo_laws_graph.proofs.EdgeRanks.{climbing-ranked}
use Rattle.geo_laws_graph.proofs.ranks.ranks_are_determined.Goals as goal

pub returns : goal.returns
returns g c = record {
  climbing = climbing-ranked;
  one_more = λ t ranked h. rank-largest t ranked h;
  only = λ t ranked r is h. rank-only t r is ranked h;
  levels = λ t ranked levels h low. rank_within-enough t ranked levels h low;
}
