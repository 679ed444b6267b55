use Rattle.std.proofs.Common.{◌≤◌, map, arith, rules}
use Rattle.geo_model.specs.Words.{largest}
use Rattle.geo_mesh.specs.Ranks.{stored, below}
use Rattle.geo_mesh.proofs.RankMend.{largest-most}
use Rattle.geo_mesh.proofs.ranks.rank_from.Goals as goal

pub highest_below-requires-clause-most : goal.highest_below-requires-clause-most
highest_below-requires-clause-most g c =
    largest-most (stored c.args.geoms.now) 4294967295 (below c.args.edges.now c.args.geom) (λ n there. c.requires.few n)

-- no rank is above 2^32 - 1, so neither is the highest below
pub overflow_add-result : goal.overflow_add-result
overflow_add-result g c =
    let most : largest (map (stored c.args.geoms.now) (below c.args.edges.now c.args.geom)) ≤ 4294967295 =
    largest-most (stored c.args.geoms.now) 4294967295 (below c.args.edges.now c.args.geom)
    (λ n there. c.requires.few n) in
    let fits : c.highest_below.result ≤ 4294967295 = omega (arith, c.highest_below.ensures) in
    search rules
