-- Who may join: a consumer just made meets the conditions of a join.
use Rattle.std.specs.Prelude.{◌≡◌, ℕ, None}
use Rattle.geo_model.specs.Topology.{Topology, attach}
use Rattle.geo_slots.specs.Slots.{value_at}
use Rattle.geo_mesh.specs.Topo.{TopoView, with_consumer, IsButForRoom}
use Rattle.geo_mesh.specs.Graph.{IsSoundGraph}
use Rattle.geo_access.specs.Access.{IsCounted, IsQuiet, IsPlaced}
use Rattle.geo_access.specs.Join.{IsCountedBut, IsLoose, IsPlacedBut}

-- where all counts are kept, no note is set, each consumer that isn't attached is of a geom without providers, and no
-- request is out through a number not yet given, a new consumer of any geom may join; and once it has joined, each
-- consumer that isn't attached is of a geom without providers
pub record NewConsumersMayJoin (C : Type 0) : Type 0 where
  pub counted : (t new : TopoView C) (geom : ℕ) → IsSoundGraph t.topology → IsButForRoom new (with_consumer t geom)
      → IsCounted t
      → IsCountedBut new t.topology.next_consumer
  pub quiet : (t new : TopoView C) (geom : ℕ) → IsButForRoom new (with_consumer t geom) → IsQuiet t → IsQuiet new
  pub placed : (t new : TopoView C) (geom : ℕ) → IsButForRoom new (with_consumer t geom) → IsPlaced t.topology
      → IsPlacedBut new.topology t.topology.next_consumer
  pub loose : (t new : TopoView C) (geom : ℕ) → IsSoundGraph t.topology → IsButForRoom new (with_consumer t geom)
      → value_at t.active t.topology.next_consumer ≡ None → IsLoose new t.topology.next_consumer
  pub joined : (t : Topology C) (cons prov : ℕ) → IsPlacedBut t cons → IsPlaced (attach t cons prov)
