use Rattle.std.proofs.Common.{None, refl, sym, ap, ◌∙◌}
use Rattle.geo_mesh.specs.Ranks.{links_of, stored}
use Rattle.geo_mesh.proofs.RowLemmas.{value_at-rows_with}
use Rattle.geo_mesh.proofs.RankSteps.{below-cell, below-cells}
use Rattle.geo_mesh.proofs.ranks.rank_below.Goals as goal

-- Each way out: what the cells of consumer, provider and geom tell, and 0 where one of the first two is missing
pub returns-in_default : goal.returns-in_default
returns-in_default g c =
    rw (value_at-rows_with links_of c.args.cons c.args.edges.now.consumers.rows, ← c.in_default.ensures.value) refl

pub returns-in_default-prov : goal.returns-in_default-prov
returns-in_default-prov g c =
    sym (below-cell c.args.geoms.now c.args.edges.now c.args.cons _ None c.in-Some.ensures.value c.in_default-prov.is)

pub returns-in-Some-get : goal.returns-in-Some-get
returns-in-Some-get g c =
    c.stored.ensures ∙ ap (stored c.args.geoms.now) c.number-in-Some-get.ensures
    ∙ sym (below-cells c.args.geoms.now c.args.edges.now c.args.cons _ c.number.result _ _ c.in-Some.ensures.value
    c.in-Some-prov.is c.number.ensures c.in-Some-get.ensures.value)

pub returns-in-None : goal.returns-in-None
returns-in-None g c =
    sym (below-cells c.args.geoms.now c.args.edges.now c.args.cons _ c.number.result _ None c.in-Some.ensures.value
    c.in-Some-prov.is c.number.ensures c.in-None.ensures.value)
