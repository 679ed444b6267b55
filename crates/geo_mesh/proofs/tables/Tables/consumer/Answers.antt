use Rattle.geo_mesh.proofs.ViewLemmas.{consumer_there}
use Rattle.geo_mesh.proofs.tables.Tables.consumer.Goals as goal

pub cell-requires : goal.cell-requires
cell-requires g c =
    rw c.number.ensures (consumer_there c.args.self.now.geoms c.args.self.now.edges c.args.cons c.requires)
