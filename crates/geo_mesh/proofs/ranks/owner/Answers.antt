use Rattle.std.proofs.Common.{rules}
use Rattle.geo_mesh.specs.Ranks.{owner_of}
use Rattle.geo_mesh.proofs.RowLemmas.{value_at-rows_with}
use Rattle.geo_mesh.proofs.ranks.owner.Goals as goal

pub returns : goal.returns
returns c = rw (value_at-rows_with owner_of c.args.prov c.args.edges.now.providers.rows, ← c.get.ensures.value)
    (search rules)
