use Rattle.std.proofs.Common.{sym, ap, ◌∙◌}
use Rattle.std.specs.Prelude.{◌&&◌, ◌==◌, length}
use Rattle.geo_model.specs.Topology.{consumers_of}
use Rattle.geo_mesh.specs.Cells.{graph}
use Rattle.geo_mesh.proofs.GoingLemmas.{offers-none, owns-none}
use Rattle.geo_mesh.proofs.going.is_bare.Goals as goal

-- it has no provider, so that its consumers decide
pub returns-then-is_none : goal.returns-then-is_none
returns-then-is_none g c =
    let offers = offers-none c.args.tables.now c.requires c.args.geom c.first_from.result c.is_none.result
    c.is_none.ensures c.first_from.ensures in
    owns-none c.args.tables.now c.requires c.args.geom c.first_from-then-is_none.result c.is_none-then-is_none.result
    c.is_none-then-is_none.ensures c.first_from-then-is_none.ensures
    ∙ sym (ap (λ b. b && (length (consumers_of (graph c.args.tables.now) c.args.geom) == 0))
    (sym offers ∙ c.if-is_none.true))

-- it has a provider
pub returns-else-is_none : goal.returns-else-is_none
returns-else-is_none g c =
    let offers = offers-none c.args.tables.now c.requires c.args.geom c.first_from.result c.is_none.result
    c.is_none.ensures c.first_from.ensures in
    c.if-is_none.false
    ∙ sym (ap (λ b. b && (length (consumers_of (graph c.args.tables.now) c.args.geom) == 0))
    (sym offers ∙ c.if-is_none.false))
