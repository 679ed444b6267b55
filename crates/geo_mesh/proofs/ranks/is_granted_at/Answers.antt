use Rattle.std.proofs.Common.{rules}
use Rattle.geo_mesh.specs.Ranks.{kind_of}
use Rattle.geo_mesh.proofs.RowLemmas.{value_at-rows_with}
use Rattle.geo_mesh.proofs.ranks.is_granted_at.Goals as goal

pub returns : goal.returns
returns g c = rw (value_at-rows_with kind_of c.args.geom c.args.geoms.now.rows, ← c.get.ensures.value) (search rules)
