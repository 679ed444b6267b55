use Rattle.std.proofs.Common.{rules}
use Rattle.geo_mesh.proofs.ViewLemmas.{shows-provider}
use Rattle.geo_mesh.proofs.GraphLemmas.{sound-graph}
use Rattle.geo_mesh.proofs.topo.Topo.provider.Goals as goal

-- Here and below: the graph, the counts and the notes show of a provider what its cell has
pub returns-clause-provider : goal.returns-clause-provider
returns-clause-provider g c =
    let shows = shows-provider c.self.inside.tables c.args.self.now c.self.view_is c.number.result c.args.id
    c.number.ensures _ c.get.ensures.value in
    rw shows.provider (search rules)

pub returns-clause-have : goal.returns-clause-have
returns-clause-have g c =
    let shows = shows-provider c.self.inside.tables c.args.self.now c.self.view_is c.number.result c.args.id
    c.number.ensures _ c.get.ensures.value in
    rw shows.have (search rules)

pub returns-clause-risen : goal.returns-clause-risen
returns-clause-risen g c =
    let shows = shows-provider c.self.inside.tables c.args.self.now c.self.view_is c.number.result c.args.id
    c.number.ensures _ c.get.ensures.value in
    rw shows.risen (search rules)

pub returns-clause-fallen : goal.returns-clause-fallen
returns-clause-fallen g c =
    let shows = shows-provider c.self.inside.tables c.args.self.now c.self.view_is c.number.result c.args.id
    c.number.ensures _ c.get.ensures.value in
    rw shows.fallen (search rules)

pub returns-clause-sound : goal.returns-clause-sound
returns-clause-sound g c = rw (← c.self.view_is) (sound-graph c.self.inside.tables c.self.invariant)
