-- Consumers that were made and are taken away again, since something refused them: a number is used up, and no more.
use Rattle.std.specs.Prelude.{◌≡◌, ℕ, ◌+◌, None}
use Rattle.geo_model.specs.Topology.{attach, detach}
use Rattle.geo_slots.specs.Slots.{value_at}
use Rattle.geo_mesh.specs.Topo.{TopoView, with_consumer, without_consumer, with_topology, IsButForRoom}
use Rattle.geo_mesh.specs.Graph.{IsSoundGraph}
use Rattle.geo_laws_counts.specs.CountWords.{HoldsGrants}
use Rattle.geo_access.specs.Access.{IsCounted, IsQuiet, IsPlaced}
use Rattle.geo_access.specs.Join.{joined_view}

module _ {C : Type 0} where
  -- the number that the next consumer gets
  abbrev pub next_number : TopoView C → ℕ
  next_number t = t.topology.next_consumer

  -- the mesh is as before, but that the next number is used up, and for the room that is kept
  abbrev pub HasUsedNumber : TopoView C → TopoView C → Type 0
  HasUsedNumber t new =
      IsButForRoom new (record t { topology = record t.topology { next_consumer = next_number t + 1 } })

  -- all counts are kept, and nothing is known of the next number; and the second mesh has one consumer more, of the
  -- geom
  pub record IsMade (t made : TopoView C) (geom : ℕ) : Type 0 where
    pub sound : IsSoundGraph t.topology
    pub counted : IsCounted t
    pub unknown : value_at t.active (next_number t) ≡ None
    pub comes : IsButForRoom made (with_consumer t geom)

  -- with the consumer of a number attached
  abbrev pub on : TopoView C → ℕ → ℕ → TopoView C
  on t cons prov = with_topology t (attach t.topology cons prov)

  -- with the consumer of a number taken off its provider
  abbrev pub off : TopoView C → ℕ → TopoView C
  off t cons = with_topology t (detach t.topology cons)

-- a consumer just made is taken away again, attached to nothing, or attached and taken off; one of DEV or TASTE that
-- joined wants nothing, so it was attached and nothing else changed; and where a number is used up, counts, notes and
-- places stay
pub record RefusedConsumersGo (C : Type 0) : Type 0 where
  pub loose : (t made : TopoView C) (geom : ℕ) → IsMade t made geom
      → HasUsedNumber t (without_consumer made (next_number t))
  pub attached : (t made : TopoView C) (geom prov : ℕ) → IsMade t made geom
      → HasUsedNumber t (without_consumer (off (on made (next_number t) prov) (next_number t)) (next_number t))
  pub joined : (t made : TopoView C) (geom prov : ℕ) → IsMade t made geom → IsQuiet t → HoldsGrants t.topology geom
      → joined_view made (next_number t) prov ≡ on made (next_number t) prov
  pub counted : (t new : TopoView C) → HasUsedNumber t new → IsCounted t → IsCounted new
  pub quiet : (t new : TopoView C) → HasUsedNumber t new → IsQuiet t → IsQuiet new
  pub placed : (t new : TopoView C) → HasUsedNumber t new → IsPlaced t.topology → IsPlaced new.topology
