-- A mesh with its queue of events, as the calls of this crate change it (g_event(9), g_wither_geom(9)).
use Rattle.std.specs.Prelude.{◌≡◌, ℕ, ◌+◌, ◌==◌, Bool, false, not, List, length, map, filter, All, IsSomeAnd}
use Rattle.std.specs.Option.{option_map_or}
use Rattle.geo_base.specs.declared.request.Counts.{Counts}
use Rattle.geo_model.specs.Topology.{Topology, Provider, Consumer, geom_at, consumers_of, attached_to}
use Rattle.geo_model.specs.Demand.{want}
use Rattle.geo_model.specs.Events.{QueuedTopology}
use Rattle.geo_event.specs.EventQueue.{Queued}
use Rattle.geo_slots.specs.Slots.{value_at}
use Rattle.geo_mesh.specs.Topo.{TopoView, with_topology}
use Rattle.geo_access.specs.Access.{granted_by, noted, IsCounted, IsQuiet}

-- how many providers carry no error: each of them can be orphaned once
abbrev pub sound_providers : {C : Type 0} → Topology C → ℕ
sound_providers t = length (filter (λ x. not x.errored) t.providers)

-- how many providers are noted
abbrev pub notes : List (ℕ × Bool) → ℕ
notes rows = length (noted rows)

module _ {C : Type 0} where
  -- the consumers at the provider that aren't DEV's, of which each handle has one
  abbrev pub consumers_above : Topology C → ℕ → List Consumer
  consumers_above t p = filter (λ c. not (c.geom == 1)) (attached_to t p)

  -- DEV isn't a geom that a taste made
  abbrev pub IsDevMade : Topology C → Type 0
  IsDevMade t = IsSomeAnd (geom_at t 1) (λ g. g.automatic ≡ false)

  -- no consumer of a handle has to go because its provider is written
  abbrev pub AreHandlesUnmarked : Topology C → Type 0
  AreHandlesUnmarked t = All (λ c. c.spoiled ≡ false) (consumers_of t 1)

  -- the graph and the queue, as the model has them
  abbrev pub queued : TopoView C → Queued → QueuedTopology C
  queued t q = record { topology = t.topology; events = q.events }

  -- of the mesh nothing has changed but the graph, and the queue has the memory that it had
  pub record RestStays (t : TopoView C) (q : Queued) (new : TopoView C) (queue : Queued) : Type 0 where
    pub mesh : new ≡ with_topology t new.topology
    pub room : queue.spare + length queue.events ≡ q.spare + length q.events

  -- the stored counts are what the model has the consumers want by these grants
  abbrev pub AreStored : (ℕ → Counts) → TopoView C → Type 0
  AreStored granted t = t.wants ≡ map (λ (c : Consumer). (c.number, want granted t.topology c)) t.topology.consumers

  -- whether a request is out through the consumer
  abbrev pub is_out : TopoView C → ℕ → Bool
  is_out t c = option_map_or (λ n. not (n == 0)) (value_at t.active c) false

  -- no note that a write count left zero, or came to it
  abbrev pub without_rises : TopoView C → TopoView C
  without_rises t = record t { risen = map (λ (p : Provider). (p.number, false)) t.topology.providers }

  -- the same of notes of a fall
  abbrev pub without_falls : TopoView C → TopoView C
  without_falls t = record t { fallen = map (λ (p : Provider). (p.number, false)) t.topology.providers }

  -- what is kept from the one mesh to the other: grants, stored counts, and that no note is set
  pub record CountsStay (t new : TopoView C) : Type 0 where
    pub granted : (c : ℕ) → granted_by new c ≡ granted_by t c
    pub stored : (granted : ℕ → Counts) → AreStored granted t → AreStored granted new
    pub counted : IsCounted t → IsCounted new
    pub quiet : IsQuiet t → IsQuiet new
