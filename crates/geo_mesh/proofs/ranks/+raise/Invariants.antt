use Rattle.std.proofs.Common.{◌≡◌, ℕ, ◌+◌, ◌-◌, ◌*◌, ◌<◌, ◌≤◌, true, length}
use Rattle.geo_slots.specs.Slots.{value_at}
use Rattle.geo_mesh.specs.Rows.{passes}
use Rattle.geo_mesh.specs.Mending.{height, Lifted}
use Rattle.geo_mesh.specs.Ranks.{kinds, bare, offers, ranked_links, stored, ranked_below, owner, user, is_offered, is_attached, is_high}
use Rattle.geo_mesh.proofs.ranks.+raise.Given as goal

-- twice the levels that may lie above the geom; a provider lies between it and those, so it counts one less
abbrev pub decreases-raise : goal.decreases-raise
decreases-raise g l =
    2 * (length (kinds l.geoms.now) + 2 - height (ranked_below l.edges.now) (length (kinds l.geoms.now)) l.geom)

abbrev pub decreases-raise_attached : goal.decreases-raise_attached
decreases-raise_attached g l =
    2 * (length (kinds l.geoms.now) + 2 - height (ranked_below l.edges.now) (length (kinds l.geoms.now))
    (owner l.edges.now l.prov)) - 1

-- ranks alone changed, above the geom, and those directly above by providers before `at` are higher than `least`
abbrev pub invariant-raise-loop-prov : goal.invariant-raise-loop-prov
invariant-raise-loop-prov g l = record {
  same : bare l.geoms ≡ bare l.initial.geoms;
  lifted : Lifted (ranked_below l.edges) l.geom 0 (stored l.initial.geoms) (stored l.geoms);
  high : l.high ≡ is_high (kinds l.initial.geoms) (stored l.geoms);
  passed : (p c : ℕ) → p < l.at → passes (is_offered l.geom) (value_at (offers l.edges).rows p) ≡ true
      → passes (is_attached p) (value_at (ranked_links l.edges).rows c) ≡ true
      → l.least + 1 ≤ stored l.geoms (user l.edges c);
}

abbrev pub decreases-raise-loop-prov : goal.decreases-raise-loop-prov
decreases-raise-loop-prov g l = l.edges.providers.next - l.at

-- the same above the provider's geom, and the geoms of the consumers before `at` have at least `least`
abbrev pub invariant-raise_attached-loop-cons : goal.invariant-raise_attached-loop-cons
invariant-raise_attached-loop-cons g l = record {
  same : bare l.geoms ≡ bare l.initial.geoms;
  lifted : Lifted (ranked_below l.edges) (owner l.edges l.prov) 0 (stored l.initial.geoms) (stored l.geoms);
  high : l.high ≡ is_high (kinds l.initial.geoms) (stored l.geoms);
  raised : (c : ℕ) → c < l.at → passes (is_attached l.prov) (value_at (ranked_links l.edges).rows c) ≡ true
      → l.least ≤ stored l.geoms (user l.edges c);
}

abbrev pub decreases-raise_attached-loop-cons : goal.decreases-raise_attached-loop-cons
decreases-raise_attached-loop-cons g l = l.edges.consumers.next - l.at
