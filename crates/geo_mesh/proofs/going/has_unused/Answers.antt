use Rattle.geo_model.specs.Topology.{Consumer, consumers_of}
use Rattle.geo_mesh.specs.Cells.{graph, topo_view}
use Rattle.geo_mesh.specs.Going.{is_unused}
use Rattle.geo_mesh.proofs.GoingLemmas.{any-begin}
use Rattle.geo_mesh.proofs.going.has_unused.Goals as goal

pub loop-cons-init : goal.loop-cons-init
loop-cons-init g c =
    any-begin (λ (x : Consumer). x.number) (consumers_of (graph c.args.tables.now) c.args.geom)
    (is_unused (topo_view c.args.tables.now))
