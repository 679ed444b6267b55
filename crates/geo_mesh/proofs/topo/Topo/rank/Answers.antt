use Rattle.std.proofs.Common.{◌≡◌, ℕ, ◌+◌, ◌<◌, ◌≤◌, ◌^◌, Some, length, ap, refl, sym, ◌∙◌, arith, rules}
use Rattle.geo_model.specs.Rank.{rank}
use Rattle.geo_mesh.specs.Cells.{graph}
use Rattle.geo_mesh.specs.Ranks.{rank_from, stored}
use Rattle.geo_mesh.proofs.GraphLemmas.{sound-graph}
use Rattle.geo_mesh.proofs.RankFirst.{first-two, kin-of}
use Rattle.geo_mesh.proofs.RankMesh.{mesh-few, rank_from-most, rank_from-rank}
use Rattle.geo_mesh.proofs.ViewLemmas.{geom_at-view}
use Rattle.geo_mesh.proofs.topo.Topo.rank.Goals as goal

pub rank_from-rank-requires-clause-kin : goal.rank_from-rank-requires-clause-kin
rank_from-rank-requires-clause-kin g c =
    kin-of c.self.inside.tables.geoms c.self.inside.tables.edges c.self.invariant.graph c.self.invariant.tables.indexed

pub rank_from-rank-requires-clause-few : goal.rank_from-rank-requires-clause-few
rank_from-rank-requires-clause-few g c =
    mesh-few c.self.inside.tables.geoms c.self.inside.tables.edges c.self.inside.tables.live c.self.invariant.ranks

-- a rank is at most one more than the number of geoms, of which there are fewer than 2^32
pub overflow_cast-result : goal.overflow_cast-result
overflow_cast-result g c =
    let most : rank_from (stored c.self.inside.tables.geoms) c.self.inside.tables.edges c.number-in-Some.result
    ≤ length c.self.inside.tables.geoms.rows + 1 =
    rank_from-most c.self.inside.tables.geoms c.self.inside.tables.edges c.self.inside.tables.live
    c.self.invariant.ranks
    (first-two c.self.inside.tables.geoms c.self.inside.tables.edges c.self.invariant.graph)
    c.number-in-Some.result in
    let fits : c.rank_from-rank.result < 2 ^ 32 =
    omega (
      arith,
      c.rank_from-rank.ensures,
      c.self.invariant.ranks.count.counted,
      c.self.invariant.ranks.count.few,
    ) in
    search rules

-- each rank in a cell is one more than the highest below, as in the model; DEV's and TASTE's are found so
pub returns-in-Some-clause-rank : goal.returns-in-Some-clause-rank
returns-in-Some-clause-rank g c =
    let here : rank (graph c.self.inside.tables) c.number-in-Some.result ≡ c.rank_from-rank.result =
    rank_from-rank c.self.inside.tables.geoms c.self.inside.tables.edges c.self.inside.tables.live
    c.self.invariant.ranks
    (first-two c.self.inside.tables.geoms c.self.inside.tables.edges c.self.invariant.graph)
    c.number-in-Some.result ∙ sym c.rank_from-rank.ensures in
    let same : c.number.result ≡ c.number-in-Some.result = c.number.ensures ∙ sym c.number-in-Some.ensures in
    rw (
      ← c.self.view_is,
      ← c.number-in-Some.ensures,
      geom_at-view c.self.inside.tables.geoms c.self.inside.tables.edges c.number-in-Some.result,
      ← same,
      ← c.in-Some.ensures.value,
    ) (ap (λ (n : ℕ). Some n) (sym (rw (← same) at here)))

-- no cell stands under the number, so the graph has no geom there either
pub returns-in-None-clause-rank : goal.returns-in-None-clause-rank
returns-in-None-clause-rank g c =
    rw (
      ← c.self.view_is,
      ← c.number.ensures,
      geom_at-view c.self.inside.tables.geoms c.self.inside.tables.edges c.number.result,
      ← c.in-None.ensures.value,
    ) refl

pub returns-in-Some-clause-sound : goal.returns-in-Some-clause-sound
returns-in-Some-clause-sound g c = rw (← c.self.view_is) (sound-graph c.self.inside.tables c.self.invariant)

pub returns-in-None-clause-sound : goal.returns-in-None-clause-sound
returns-in-None-clause-sound g c = rw (← c.self.view_is) (sound-graph c.self.inside.tables c.self.invariant)
