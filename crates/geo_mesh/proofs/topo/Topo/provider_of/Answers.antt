use Rattle.std.proofs.Common.{rules}
use Rattle.geo_mesh.specs.Cells.{graph}
use Rattle.geo_mesh.proofs.GraphLemmas.{sound-graph}
use Rattle.geo_mesh.proofs.IndexLemmas.{offered_first}
use Rattle.geo_mesh.proofs.topo.Topo.provider_of.Goals as goal

-- the providers of a geom are its children in the index, in the order of the graph
pub returns-clause-first : goal.returns-clause-first
returns-clause-first g c =
    rw (
      ← c.self.view_is,
      ← c.number.ensures,
      ← offered_first (graph c.self.inside.tables) c.self.inside.tables.edges.index
          c.self.invariant.tables.indexed c.number.result c.args.from,
      ← c.first_from.ensures,
    ) (search rules)

pub returns-clause-sound : goal.returns-clause-sound
returns-clause-sound g c = rw (← c.self.view_is) (sound-graph c.self.inside.tables c.self.invariant)
