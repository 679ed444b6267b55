use Rattle.std.proofs.Common.{refl}
use Rattle.geo_mesh.specs.Cells.{provider_scratch_of}
use Rattle.geo_mesh.proofs.RowLemmas.{value_at-rows_with}
use Rattle.geo_mesh.proofs.topo.Topo.provider_scratch.Goals as goal

pub provider-requires : goal.provider-requires
provider-requires g c = rw (← c.self.view_is) at c.requires

pub returns : goal.returns
returns g c =
    rw (
      ← c.self.view_is,
      value_at-rows_with provider_scratch_of c.args.prov c.self.inside.tables.edges.providers.rows,
      c.provider.ensures,
    ) refl
