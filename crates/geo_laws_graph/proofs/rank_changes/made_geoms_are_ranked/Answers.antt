use Rattle.geo_laws_graph.proofs.Opens.{made-ranks}
use Rattle.geo_laws_graph.proofs.rank_changes.made_geoms_are_ranked.Goals as goal

pub returns : goal.returns
returns c t kind name config ps ranked live offerers order found =
    made-ranks t kind name config ps ranked live offerers order found
