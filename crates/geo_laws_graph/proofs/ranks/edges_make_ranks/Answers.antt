use Rattle.geo_laws_graph.proofs.AddedEdges.{ranked-added, added-ranked}
use Rattle.geo_laws_graph.proofs.EdgeRanks.{stays-same_edges, fewer-edges, rises-edge}
use Rattle.geo_laws_graph.proofs.ranks.edges_make_ranks.Goals as goal

pub returns : goal.returns
returns g c = record {
  same = λ t u. stays-same_edges t u;
  fewer = λ t u. fewer-edges t u;
  raise = λ t u a b added ranked now. rises-edge t u a b added ranked now;
  loops = λ t u a b added ranked geoms providers.
      ((λ none. ranked-added t u a b added ranked geoms providers none), (λ now. added-ranked t u a b added now));
}
