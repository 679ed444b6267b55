use Rattle.std.proofs.Common.{ap, rules}
use Rattle.std.specs.Prelude.{◌&&◌}
use Rattle.geo_mesh.specs.Cells.{topo_view}
use Rattle.geo_mesh.specs.Going.{can_go, is_free_in}
use Rattle.geo_mesh.proofs.RankFirst.{kin-of}
use Rattle.geo_mesh.proofs.GraphLemmas.{sound-graph}
use Rattle.geo_mesh.proofs.GoingLemmas.{first-going, free-rows}
use Rattle.geo_mesh.proofs.topo.Topo.next_going.Goals as goal

-- the marks are those of the withering geoms of which something can go, in the order of the geoms
pub returns-clause-first : goal.returns-clause-first
returns-clause-first g c =
    let kin = kin-of c.self.inside.tables.geoms c.self.inside.tables.edges c.self.invariant.graph
    c.self.invariant.tables.indexed in
    rw (
      ← c.self.view_is,
      ← first-going c.args.from (can_go (topo_view c.self.inside.tables)) (is_free_in c.self.inside.tables)
          (λ row. ap (λ b. row.1.geom.withering && b) (free-rows c.self.inside.tables kin.consumers_rise row.0))
          c.self.inside.tables.geoms.rows,
      ← c.self.invariant.going,
      ← c.first_from.ensures,
    ) (search rules)

pub returns-clause-sound : goal.returns-clause-sound
returns-clause-sound g c = rw (← c.self.view_is) (sound-graph c.self.inside.tables c.self.invariant)
