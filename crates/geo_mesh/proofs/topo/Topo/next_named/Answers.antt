use Rattle.std.proofs.Common.{rules}
use Rattle.geo_mesh.proofs.GraphLemmas.{sound-graph}
use Rattle.geo_mesh.proofs.NamedLemmas.{named-graph}
use Rattle.geo_mesh.proofs.topo.Topo.next_named.Goals as goal

pub first_of-requires : goal.first_of-requires
first_of-requires g c = c.self.invariant.tables.notes.named

-- the first row of the class and the name, seen as a geom of the graph
pub returns-clause-first : goal.returns-clause-first
returns-clause-first g c =
    rw (
      ← c.self.view_is,
      ← named-graph c.args.kind c.args.name.now c.args.from c.self.inside.tables.geoms.rows,
      ← c.first_of.ensures,
    ) (search rules)

pub returns-clause-sound : goal.returns-clause-sound
returns-clause-sound g c = rw (← c.self.view_is) (sound-graph c.self.inside.tables c.self.invariant)
