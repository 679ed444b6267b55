use Rattle.std.proofs.Common.{◌≡◌, ℕ, ◌-◌, ◌<◌, ◌≤◌, true}
use Rattle.geo_slots.specs.Slots.{value_at}
use Rattle.geo_mesh.specs.Rows.{passes}
use Rattle.geo_mesh.specs.Ranks.{ranked_links, is_attached}
use Rattle.geo_mesh.proofs.ranks.ranked_consumer.Given as goal

-- no consumer from `from` on and before `at` is attached to the provider and of a later geom
abbrev pub invariant-loop-cons : goal.invariant-loop-cons
invariant-loop-cons l = record {
  past : l.from ≤ l.at;
  none : (m : ℕ) → l.from ≤ m → m < l.at
      → passes (is_attached l.prov) (value_at (ranked_links l.edges).rows m) ≡ true → ⊥;
}

abbrev pub decreases-loop-cons : goal.decreases-loop-cons
decreases-loop-cons l = l.edges.consumers.next - l.at
