-- How many places of the queue are owed.
use Rattle.std.specs.Prelude.{ℕ, ◌+◌, ◌*◌, ◌≤◌, length}
use Rattle.geo_model.specs.World.{Config}
use Rattle.geo_mesh.specs.Topo.{TopoView}
use Rattle.geo_access.specs.Access.{IsCounted, noted, released_view}
use Rattle.geo_state.specs.Holds.{owed_events}

-- at most two for each provider
abbrev pub OwedAreFew : Type 0
OwedAreFew = (t : TopoView Config) → IsCounted t → owed_events t ≤ 2 * length t.topology.providers

-- after a release as many less as providers are noted, which are offered for taste again: so a close has its places
abbrev pub ClosesOweLess : Type 0
ClosesOweLess =
    (t : TopoView Config) (c : ℕ) → IsCounted t
    → owed_events (released_view t c) + length (noted (released_view t c).fallen) ≤ owed_events t

-- both
pub record PlacesAreOwed : Type 0 where
  pub few : OwedAreFew
  pub closes : ClosesOweLess
