use Rattle.std.proofs.Common.{rules}
use Rattle.geo_mesh.proofs.ViewLemmas.{is_errored-rows}
use Rattle.geo_mesh.proofs.topo.Topo.is_errored.Goals as goal

-- numbers rise, so one provider at most has the number, and its cell says whether it carries an error
pub returns : goal.returns
returns g c =
    rw (
      ← c.self.view_is,
      ← c.number.ensures,
      is_errored-rows c.number.result 1 c.self.inside.tables.edges.providers.next
          c.self.inside.tables.edges.providers.rows c.get.ensures.rising,
      ← c.get.ensures.value,
    ) (search rules)
