use Rattle.std.proofs.Common.{rules}
use Rattle.geo_mesh.specs.Cells.{graph}
use Rattle.geo_mesh.proofs.GraphLemmas.{sound-graph}
use Rattle.geo_mesh.proofs.IndexLemmas.{attached_first}
use Rattle.geo_mesh.proofs.topo.Topo.attached_to.Goals as goal

-- the consumers of a provider are its children in the index, in the order of the graph
pub returns-clause-first : goal.returns-clause-first
returns-clause-first g c =
    rw (
      ← c.self.view_is,
      ← c.number.ensures,
      ← attached_first (graph c.self.inside.tables) c.self.inside.tables.edges.index
          c.self.invariant.tables.indexed c.number.result c.args.from,
      ← c.first_from.ensures,
    ) (search rules)

pub returns-clause-sound : goal.returns-clause-sound
returns-clause-sound g c = rw (← c.self.view_is) (sound-graph c.self.inside.tables c.self.invariant)
