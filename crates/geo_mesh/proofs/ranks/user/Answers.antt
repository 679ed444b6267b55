use Rattle.std.proofs.Common.{rules}
use Rattle.geo_mesh.specs.Ranks.{ranked_link_of}
use Rattle.geo_mesh.proofs.RowLemmas.{value_at-rows_with}
use Rattle.geo_mesh.proofs.ranks.user.Goals as goal

pub returns : goal.returns
returns c = rw (
  value_at-rows_with ranked_link_of c.args.cons c.args.edges.now.consumers.rows,
  ← c.get.ensures.value,
) (search rules)
