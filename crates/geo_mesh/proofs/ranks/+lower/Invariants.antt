use Rattle.std.proofs.Common.{◌≡◌, ℕ, ◌+◌, ◌-◌, ◌*◌, ◌<◌, ◌≤◌, true, length}
use Rattle.geo_slots.specs.Slots.{value_at}
use Rattle.geo_mesh.specs.Rows.{passes}
use Rattle.geo_mesh.specs.Mending.{above, height, Lowered}
use Rattle.geo_mesh.specs.Ranks.{kinds, bare, offers, ranked_links, stored, ranked_below, owner, user, is_offered, is_attached}
use Rattle.geo_mesh.proofs.ranks.+lower.Given as goal

-- twice the levels that may lie above the geom; a provider lies between it and those, so it counts one less
abbrev pub decreases-lower : goal.decreases-lower
decreases-lower g l =
    2 * (length (kinds l.geoms.now) + 2 - height (ranked_below l.edges.now) (length (kinds l.geoms.now)) l.geom)

abbrev pub decreases-lower_attached : goal.decreases-lower_attached
decreases-lower_attached g l =
    2 * (length (kinds l.geoms.now) + 2 - height (ranked_below l.edges.now) (length (kinds l.geoms.now))
    (owner l.edges.now l.prov)) - 1

-- ranks alone changed, they only fell, and those directly above by providers before `at` are low
abbrev pub invariant-lower-loop-prov : goal.invariant-lower-loop-prov
invariant-lower-loop-prov g l = record {
  same : bare l.geoms ≡ bare l.initial.geoms;
  lowered : Lowered (ranked_below l.edges) (stored l.initial.geoms) (stored l.geoms);
  low : (p c : ℕ) → p < l.at → passes (is_offered l.geom) (value_at (offers l.edges).rows p) ≡ true
      → passes (is_attached p) (value_at (ranked_links l.edges).rows c) ≡ true
      → stored l.geoms (user l.edges c) ≤ above (ranked_below l.edges) (stored l.geoms) (user l.edges c);
}

abbrev pub decreases-lower-loop-prov : goal.decreases-lower-loop-prov
decreases-lower-loop-prov g l = l.edges.providers.next - l.at

-- the same, and the geoms of the consumers before `at` are low
abbrev pub invariant-lower_attached-loop-cons : goal.invariant-lower_attached-loop-cons
invariant-lower_attached-loop-cons g l = record {
  same : bare l.geoms ≡ bare l.initial.geoms;
  lowered : Lowered (ranked_below l.edges) (stored l.initial.geoms) (stored l.geoms);
  low : (c : ℕ) → c < l.at → passes (is_attached l.prov) (value_at (ranked_links l.edges).rows c) ≡ true
      → stored l.geoms (user l.edges c) ≤ above (ranked_below l.edges) (stored l.geoms) (user l.edges c);
}

abbrev pub decreases-lower_attached-loop-cons : goal.decreases-lower_attached-loop-cons
decreases-lower_attached-loop-cons g l = l.edges.consumers.next - l.at
