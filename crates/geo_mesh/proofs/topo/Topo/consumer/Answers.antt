use Rattle.std.proofs.Common.{rules}
use Rattle.geo_mesh.proofs.ViewLemmas.{shows-consumer}
use Rattle.geo_mesh.proofs.GraphLemmas.{sound-graph}
use Rattle.geo_mesh.proofs.topo.Topo.consumer.Goals as goal

-- Here and below: the graph, the counts and the requests show of a consumer what its cell has
pub returns-clause-consumer : goal.returns-clause-consumer
returns-clause-consumer g c =
    let shows = shows-consumer c.self.inside.tables c.args.self.now c.self.view_is c.number.result c.args.id
    c.number.ensures _ c.get.ensures.value in
    rw shows.consumer (search rules)

pub returns-clause-want : goal.returns-clause-want
returns-clause-want g c =
    let shows = shows-consumer c.self.inside.tables c.args.self.now c.self.view_is c.number.result c.args.id
    c.number.ensures _ c.get.ensures.value in
    rw shows.want (search rules)

pub returns-clause-active : goal.returns-clause-active
returns-clause-active g c =
    let shows = shows-consumer c.self.inside.tables c.args.self.now c.self.view_is c.number.result c.args.id
    c.number.ensures _ c.get.ensures.value in
    rw shows.active (search rules)

pub returns-clause-sound : goal.returns-clause-sound
returns-clause-sound g c = rw (← c.self.view_is) (sound-graph c.self.inside.tables c.self.invariant)
