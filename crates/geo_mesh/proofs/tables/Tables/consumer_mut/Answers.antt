use Rattle.geo_mesh.proofs.ViewLemmas.{consumer_there}
use Rattle.geo_mesh.proofs.tables.Tables.consumer_mut.Goals as goal

pub cell_mut-requires : goal.cell_mut-requires
cell_mut-requires g c =
    rw c.number.ensures (consumer_there c.args.self.now.geoms c.args.self.now.edges c.args.cons c.requires)
