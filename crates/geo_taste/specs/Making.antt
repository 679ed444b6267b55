-- The mesh with its events, and the geoms and providers that are made in it (g_new_geomf, g_new_providerf,
-- g_attach(9)).
use Rattle.std.specs.Prelude.{◌≡◌, ℕ, Bool, false, List, [], ◌∷◌, ◌++◌, Some, fold}
use Rattle.geo_base.specs.declared.kind.Kind.{Kind}
use Rattle.geo_base.specs.declared.kind.Kind.TheVariants as kinds
use Rattle.geo_model.specs.declared.step.Event.{Event}
use Rattle.geo_model.specs.declared.step.Event.TheVariants.{NewProvider}
use Rattle.geo_model.specs.Topology.{add_consumer}
use Rattle.geo_model.specs.World.{Config, Disk}
use Rattle.geo_model.specs.Events.{QueuedTopology}
use Rattle.geo_mesh.specs.Topo.{TopoView, with_geom, with_provider, with_consumer, with_topology, IsButForRoom}
use Rattle.geo_event.specs.EventQueue.{Queued}

-- the mesh, and the events that wait
pub record QueuedMesh : Type 0 where
  pub mesh : TopoView Config
  pub events : List Event

-- a mesh and the events of a queue
abbrev pub both : TopoView Config → Queued → QueuedMesh
both t q = record { mesh = t; events = q.events }

-- the graph and the events, as the steps of the model have them
abbrev pub queued : QueuedMesh → QueuedTopology Config
queued m = record { topology = m.mesh.topology; events = m.events }

-- a mesh and a queue are these, but for the room that is kept
pub record AreBoth (t : TopoView Config) (q : Queued) (m : QueuedMesh) : Type 0 where
  pub mesh : IsButForRoom t m.mesh
  pub events : q.events ≡ m.events

-- with a new consumer of the geom, attached to the provider (g_new_consumer, g_attach(9))
abbrev pub with_attached : TopoView Config → ℕ → ℕ → TopoView Config
with_attached t geom prov = with_topology (with_consumer t geom) (add_consumer t.topology geom (Some prov))

-- with a consumer of the geom at each of the providers, in order
abbrev pub with_all_attached : TopoView Config → ℕ → List ℕ → TopoView Config
with_all_attached t geom provs = fold (λ u p. with_attached u geom p) t provs

-- with a new geom that has a consumer at each of the providers
abbrev pub with_geom_on : TopoView Config → Kind → List ℕ → Config → Bool → List ℕ → TopoView Config
with_geom_on t kind name config automatic provs =
    with_all_attached (with_geom t kind name config automatic) t.topology.next_geom provs

-- with a new provider of the geom, which is offered for taste
abbrev pub with_offer : QueuedMesh → ℕ → List ℕ → ℕ → ℕ → QueuedMesh
with_offer m geom name size sector = record {
  mesh = with_provider m.mesh geom name size sector;
  events = m.events ++ NewProvider m.mesh.topology.next_provider ∷ [];
}

-- with a geom of a command, over so many providers, and its provider
abbrev pub with_built : QueuedMesh → Kind → List ℕ → Config → List ℕ → List ℕ → ℕ → ℕ → QueuedMesh
with_built m kind geom_name config provs name size sector =
    with_offer (record m { mesh = with_geom_on m.mesh kind geom_name config false provs })
    m.mesh.topology.next_geom name size sector

-- with the geom of a disk, and its provider
abbrev pub with_disk : QueuedMesh → ℕ → List ℕ → ℕ → ℕ → QueuedMesh
with_disk m disk name size sector = with_built m kinds.Disk name (Disk disk) [] name size sector
