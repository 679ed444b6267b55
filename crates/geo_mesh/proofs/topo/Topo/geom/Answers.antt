use Rattle.std.proofs.Common.{rules}
use Rattle.geo_mesh.proofs.ViewLemmas.{geom_at-view}
use Rattle.geo_mesh.proofs.GraphLemmas.{sound-graph}
use Rattle.geo_mesh.proofs.topo.Topo.geom.Goals as goal

-- the graph has a geom under a number just where a cell stands there, and shows what the cell has
pub returns-clause-geom : goal.returns-clause-geom
returns-clause-geom g c =
    rw (
      ← c.self.view_is,
      ← c.number.ensures,
      geom_at-view c.self.inside.tables.geoms c.self.inside.tables.edges c.number.result,
      ← c.get.ensures.value,
    )
    (search rules)

pub returns-clause-sound : goal.returns-clause-sound
returns-clause-sound g c = rw (← c.self.view_is) (sound-graph c.self.inside.tables c.self.invariant)
