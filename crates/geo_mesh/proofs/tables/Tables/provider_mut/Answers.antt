use Rattle.geo_mesh.proofs.ViewLemmas.{provider_there}
use Rattle.geo_mesh.proofs.tables.Tables.provider_mut.Goals as goal

pub cell_mut-requires : goal.cell_mut-requires
cell_mut-requires g c =
    rw c.number.ensures (provider_there c.args.self.now.geoms c.args.self.now.edges c.args.prov c.requires)
