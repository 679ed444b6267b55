use Rattle.std.proofs.Common.{◌≡◌, ℕ, ◌<◌, ◌≤◌, map, true, arith}
use Rattle.geo_model.specs.Words.{largest}
use Rattle.geo_slots.specs.Slots.{value_at}
use Rattle.geo_mesh.specs.Rows.{passes}
use Rattle.geo_mesh.specs.Ranks.{offers, links, stored, below, belongs, rank_under, links_of}
use Rattle.geo_mesh.proofs.RankRows.{rising-with, under-most}
use Rattle.geo_mesh.proofs.RankWalk.{walk-more}
use Rattle.geo_mesh.proofs.RankSteps.{under-first}
use Rattle.geo_mesh.proofs.ranks.highest_below.Goals as goal

-- a rank that is met below is no greater than the highest, which is at most `most`: both are `most`
pub returns-then-highest-most : goal.returns-then-highest-most
returns-then-highest-most g c =
    let here = under-first c.args.geoms.now c.args.edges.now c.args.geom c.in-Some.cons c.loop-cons.at
    c.in-Some.ensures in
    omega (
      arith,
      c.loop-cons.invariant.most,
      c.requires.most,
      c.max-highest.ensures,
      c.rank_below.ensures,
      c.if-highest-most.true,
    )

-- the highest so far takes in the rank below this consumer, which is one of those below the geom
pub loop-cons-preserved : goal.loop-cons-preserved
loop-cons-preserved g c =
    let here = under-first c.args.geoms.now c.args.edges.now c.args.geom c.in-Some.cons c.loop-cons.at
    c.in-Some.ensures in
    record {
      most = omega (arith, c.loop-cons.invariant.most, c.max-highest.ensures, c.rank_below.ensures);
      covers =
          walk-more (belongs c.args.geom) (links c.args.edges.now).rows c.args.edges.now.consumers.next
          c.loop-cons.at c.in-Some.cons
          (λ m. rank_under (stored c.args.geoms.now) (offers c.args.edges.now).rows
          (value_at (links c.args.edges.now).rows m) ≤ c.max-highest.result) c.in-Some.ensures
          (λ m low there. omega (arith, c.loop-cons.invariant.covers m low there, c.max-highest.ensures))
          (omega (arith, c.max-highest.ensures, c.rank_below.ensures));
    }

-- each consumer of the geom was met, so no rank below is greater than the highest that was met
pub returns : goal.returns
returns g c =
    let none : (m : ℕ) → passes (belongs c.args.geom) (value_at (links c.args.edges.now).rows m) ≡ true
    → m < c.loop-cons.at = c.in_default.ensures in
    let most : largest (map (stored c.args.geoms.now) (below c.args.edges.now c.args.geom)) ≤ c.loop-cons.highest =
    under-most (stored c.args.geoms.now) (offers c.args.edges.now).rows (links c.args.edges.now).rows c.args.geom
    c.loop-cons.highest 1 c.args.edges.now.consumers.next
    (rising-with links_of 1 c.args.edges.now.consumers.next c.args.edges.now.consumers.rows
    c.requires.kin.consumers_rise)
    (λ m there. c.loop-cons.invariant.covers m (none m there) there) in
    omega (arith, c.loop-cons.invariant.most)
