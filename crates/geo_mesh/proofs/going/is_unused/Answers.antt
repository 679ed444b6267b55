use Rattle.std.proofs.Common.{rules}
use Rattle.geo_mesh.proofs.GoingLemmas.{unused-cell}
use Rattle.geo_mesh.proofs.going.is_unused.Goals as goal

pub returns : goal.returns
returns g c = rw (unused-cell c.args.tables.now.edges.consumers.rows c.args.cons) (search rules)
