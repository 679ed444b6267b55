use Rattle.geo_model.specs.Topology.{Provider, providers_of}
use Rattle.geo_mesh.specs.Cells.{graph, topo_view}
use Rattle.geo_mesh.specs.Going.{is_unattached}
use Rattle.geo_mesh.proofs.GoingLemmas.{any-begin}
use Rattle.geo_mesh.proofs.going.has_unattached.Goals as goal

pub loop-prov-init : goal.loop-prov-init
loop-prov-init g c =
    any-begin (λ (p : Provider). p.number) (providers_of (graph c.args.tables.now) c.args.geom)
    (is_unattached (topo_view c.args.tables.now))
