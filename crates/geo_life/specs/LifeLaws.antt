-- What callers need to know: how many places events can take, by which grants counts are stored, and that handles are
-- spared by spoils.
use Rattle.std.specs.Prelude.{◌≡◌, ℕ, ◌≤◌, length}
use Rattle.geo_base.specs.declared.request.Counts.{Counts}
use Rattle.geo_model.specs.Topology.{Topology}
use Rattle.geo_mesh.specs.Topo.{TopoView}
use Rattle.geo_access.specs.Access.{granted_by, IsCounted}
use Rattle.geo_model.specs.World.{World}
use Rattle.geo_model.specs.Sound.{Sound}
use Rattle.geo_model.specs.Steady.{Steady}
use Rattle.geo_life.specs.Life.{sound_providers, notes, AreStored, IsDevMade, AreHandlesUnmarked}

-- there are at most as many providers without an error, and at most as many notes of a rise or of a fall, as there are
-- providers
pub record PlacesAreFew (C : Type 0) : Type 0 where
  pub sound : (t : Topology C) → sound_providers t ≤ length t.providers
  pub risen : (t : TopoView C) → IsCounted t → notes t.risen ≤ length t.topology.providers
  pub fallen : (t : TopoView C) → IsCounted t → notes t.fallen ≤ length t.topology.providers

-- where all counts are kept, they are stored by any grants that agree with what each consumer is granted
abbrev pub CountsAreStored : Type 0 → Type 0
CountsAreStored C = (t : TopoView C) (granted : ℕ → Counts) → IsCounted t → ((c : ℕ) → granted c ≡ granted_by t c)
    → AreStored granted t

-- a sound and steady world has what spoils and growths ask for: no taste made DEV, and no handle's consumer is marked
pub record HandlesAreSpared : Type 0 where
  pub made : (w : World) → Sound w → Steady w → IsDevMade w.topology
  pub unmarked : (w : World) → Steady w → AreHandlesUnmarked w.topology
