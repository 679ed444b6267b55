use Rattle.std.proofs.Common.{rules}
use Rattle.geo_mesh.proofs.ViewLemmas.{is_withering-rows}
use Rattle.geo_mesh.proofs.topo.Topo.is_withering.Goals as goal

-- numbers rise, so one geom at most has the number, and its cell says whether it withers
pub returns : goal.returns
returns g c =
    rw (
      ← c.self.view_is,
      ← c.number.ensures,
      is_withering-rows c.number.result 1 c.self.inside.tables.geoms.next c.self.inside.tables.geoms.rows
          c.get.ensures.rising,
      ← c.get.ensures.value,
    ) (search rules)
