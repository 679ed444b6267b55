use Rattle.std.proofs.Common.{ap, ◌∙◌}
use Rattle.std.specs.Prelude.{is_none}
use Rattle.geo_model.specs.Topology.{Consumer, attached_to}
use Rattle.geo_mesh.specs.Cells.{graph}
use Rattle.geo_mesh.proofs.IndexLemmas.{attached_first}
use Rattle.geo_mesh.proofs.GoingLemmas.{none-first, told_none}
use Rattle.geo_mesh.proofs.going.is_unattached.Goals as goal

-- the index has a first consumer under the provider unless none is attached to it
pub returns : goal.returns
returns g c =
    told_none c.first_from.result c.is_none.result c.is_none.ensures
    ∙ ap is_none (c.first_from.ensures
    ∙ attached_first (graph c.args.tables.now) c.args.tables.now.edges.index c.requires c.args.prov 0)
    ∙ none-first (λ (x : Consumer). x.number) (attached_to (graph c.args.tables.now) c.args.prov)
