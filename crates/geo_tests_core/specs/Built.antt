-- Meshes as the tests of access counts make them.
use Rattle.std.specs.Prelude.{All, IsSome}
use Rattle.geo_model.specs.Topology.{Topology, Consumer}
use Rattle.geo_mesh.specs.Topo.{TopoView}
use Rattle.geo_access.specs.ShutLaws.{IsShut}

-- each consumer is attached
abbrev pub ConsumersAreAttached : {C : Type 0} → Topology C → Type 0
ConsumersAreAttached t = All (λ (c : Consumer). IsSome c.provider) t.consumers

-- nothing is open, and each consumer is attached
pub record IsBuilt {C : Type 0} (t : TopoView C) : Type 0 where
  pub shut : IsShut t
  pub attached : ConsumersAreAttached t.topology
