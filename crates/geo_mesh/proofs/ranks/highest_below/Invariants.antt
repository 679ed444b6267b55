use Rattle.std.proofs.Common.{◌≡◌, ℕ, ◌-◌, ◌<◌, ◌≤◌, true, map}
use Rattle.geo_model.specs.Words.{largest}
use Rattle.geo_slots.specs.Slots.{value_at}
use Rattle.geo_mesh.specs.Rows.{passes}
use Rattle.geo_mesh.specs.Ranks.{offers, links, stored, below, belongs, rank_under}
use Rattle.geo_mesh.proofs.ranks.highest_below.Given as goal

-- the highest so far is no greater than the highest of all, and covers the consumers before `at`
abbrev pub invariant-loop-cons : goal.invariant-loop-cons
invariant-loop-cons g l = record {
  most : l.highest ≤ largest (map (stored l.geoms) (below l.edges l.geom));
  covers : (c : ℕ) → c < l.at → passes (belongs l.geom) (value_at (links l.edges).rows c) ≡ true
      → rank_under (stored l.geoms) (offers l.edges).rows (value_at (links l.edges).rows c) ≤ l.highest;
}

abbrev pub decreases-loop-cons : goal.decreases-loop-cons
decreases-loop-cons g l = l.edges.consumers.next - l.at
