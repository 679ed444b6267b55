use Rattle.geo_mesh.proofs.ViewLemmas.{geom_there}
use Rattle.geo_mesh.proofs.tables.Tables.geom_mut.Goals as goal

pub cell_mut-requires : goal.cell_mut-requires
cell_mut-requires g c =
    rw c.number.ensures (geom_there c.args.self.now.geoms c.args.self.now.edges c.args.geom c.requires)
