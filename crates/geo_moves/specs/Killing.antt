-- Handles that become dead where their provider is orphaned (g_orphan_provider(9)).
use Rattle.std.specs.Prelude.{ℕ, List, fold}
use Rattle.geo_model.specs.Topology.{Topology}
use Rattle.geo_model.specs.Events.{dying_consumers}
use Rattle.geo_model.specs.World.{Config, Handle}
use Rattle.geo_handles.specs.Handles.{killed}

-- the handles with those of the consumers of DEV at the provider dead
abbrev pub killed_at : Topology Config → ℕ → List Handle → List Handle
killed_at t prov handles = fold killed handles (dying_consumers t prov)
