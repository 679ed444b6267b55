use Rattle.geo_mesh.proofs.ViewLemmas.{provider_there}
use Rattle.geo_mesh.proofs.tables.Tables.provider.Goals as goal

pub cell-requires : goal.cell-requires
cell-requires g c =
    rw c.number.ensures (provider_there c.args.self.now.geoms c.args.self.now.edges c.args.prov c.requires)
