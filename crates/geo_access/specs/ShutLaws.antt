-- Meshes in which nothing is open.
use Rattle.std.specs.Prelude.{◌≡◌, ◌⊎◌, ℕ, Bool, true, false, List, map, All}
use Rattle.geo_base.specs.declared.kind.Kind.{Kind}
use Rattle.geo_model.specs.Words.{is_granted_kind}
use Rattle.geo_model.specs.Topology.{Provider, Consumer, attach}
use Rattle.geo_model.specs.Demand.{no_counts}
use Rattle.geo_mesh.specs.Topo.{TopoView, Room, first_mesh, with_geom, with_provider, with_consumer, with_topology, IsButForRoom}
use Rattle.geo_access.specs.Access.{clear_scratches, IsCounted, IsQuiet}

module _ {C : Type 0} where
  -- no provider and no consumer has a count, no note is set, only the first two geoms are of DEV or TASTE, and
  -- nothing is left to try
  pub record IsShut (t : TopoView C) : Type 0 where
    pub kinds : All (λ g. is_granted_kind g.kind ≡ true → (g.number ≡ 1) ⊎ (g.number ≡ 2)) t.topology.geoms
    pub haves : t.haves ≡ map (λ (p : Provider). (p.number, no_counts)) t.topology.providers
    pub wants : t.wants ≡ map (λ (c : Consumer). (c.number, no_counts)) t.topology.consumers
    pub risen : t.risen ≡ map (λ (p : Provider). (p.number, false)) t.topology.providers
    pub fallen : t.fallen ≡ map (λ (p : Provider). (p.number, false)) t.topology.providers
    pub clear : t.scratches ≡ clear_scratches t.topology

-- in such a mesh all counts are kept, and no note is set
pub record ShutMeshesAreCounted (C : Type 0) : Type 0 where
  pub counted : (t : TopoView C) → IsShut t → IsCounted t
  pub quiet : (t : TopoView C) → IsShut t → IsQuiet t

-- the first mesh is one, and it stays one where a geom of another class, a provider or a consumer is made, or a
-- consumer is attached
pub record MeshesStayShut (C : Type 0) : Type 0 where
  pub first : (dev taste : C) (room : Room) → IsShut (first_mesh dev taste room)
  pub geom : (t new : TopoView C) (kind : Kind) (name : List ℕ) (config : C) (automatic : Bool)
      → is_granted_kind kind ≡ false
      → IsButForRoom new (with_geom t kind name config automatic) → IsShut t → IsShut new
  pub provider : (t new : TopoView C) (geom : ℕ) (name : List ℕ) (size sector : ℕ)
      → IsButForRoom new (with_provider t geom name size sector)
      → IsShut t → IsShut new
  pub consumer : (t new : TopoView C) (geom : ℕ) → IsButForRoom new (with_consumer t geom) → IsShut t → IsShut new
  pub attached : (t : TopoView C) (cons prov : ℕ) → IsShut t → IsShut (with_topology t (attach t.topology cons prov))
