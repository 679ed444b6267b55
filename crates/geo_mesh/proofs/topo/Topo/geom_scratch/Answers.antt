use Rattle.std.proofs.Common.{refl}
use Rattle.geo_mesh.specs.Cells.{geom_scratch_of}
use Rattle.geo_mesh.proofs.RowLemmas.{value_at-rows_with}
use Rattle.geo_mesh.proofs.topo.Topo.geom_scratch.Goals as goal

pub geom-requires : goal.geom-requires
geom-requires g c = rw (← c.self.view_is) at c.requires

pub returns : goal.returns
returns g c =
    rw (
      ← c.self.view_is,
      value_at-rows_with geom_scratch_of c.args.geom c.self.inside.tables.geoms.rows,
      c.geom.ensures,
    ) refl
