use Rattle.std.proofs.Common.{refl}
use Rattle.geo_mesh.specs.Cells.{consumer_scratch_of}
use Rattle.geo_mesh.proofs.RowLemmas.{value_at-rows_with}
use Rattle.geo_mesh.proofs.topo.Topo.consumer_scratch.Goals as goal

pub consumer-requires : goal.consumer-requires
consumer-requires g c = rw (← c.self.view_is) at c.requires

pub returns : goal.returns
returns g c =
    rw (
      ← c.self.view_is,
      value_at-rows_with consumer_scratch_of c.args.cons c.self.inside.tables.edges.consumers.rows,
      c.consumer.ensures,
    ) refl
