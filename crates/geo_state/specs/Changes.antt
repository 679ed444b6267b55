-- Handles that are opened, closed and reaped, with their consumers: what changes, and that all is kept.
use Rattle.std.specs.Prelude.{◌≡◌, ℕ, ◌≤◌, false, List, Some, None}
use Rattle.geo_base.specs.declared.request.Counts.{Counts}
use Rattle.geo_model.specs.declared.step.Entry.{Entry}
use Rattle.geo_model.specs.Topology.{add_consumer}
use Rattle.geo_model.specs.World.{Config, Handle}
use Rattle.geo_slots.specs.Slots.{value_at, with_value, without}
use Rattle.geo_event.specs.EventQueue.{Queued}
use Rattle.geo_mesh.specs.Topo.{TopoView, with_consumer, without_consumer, with_topology, IsButForRoom}
use Rattle.geo_access.specs.Access.{IsCounted, IsQuiet, granted_by, granted_view, released_view}
use Rattle.geo_access.specs.GoneLaws.{HasUsedNumber}
use Rattle.geo_handles.specs.Handles.{HandlesView, handle_at, with_opened, released, closed}
use Rattle.geo_state.specs.declared.state.State.{State}
use Rattle.geo_state.specs.Parts.{SameParts}
use Rattle.geo_state.specs.World.{StandsFirm}
use Rattle.geo_state.specs.Holds.{Holds, owed_events}

-- what effects leave of a mesh: its parts, the requests out, and the grants
pub record Effects (t u : TopoView Config) : Type 0 where
  pub parts : SameParts t.topology u.topology
  pub active : u.active ≡ t.active
  pub granted : (c : ℕ) → granted_by u c ≡ granted_by t c

-- the counts are kept, no note is set, and the queue has the places that are owed
pub record IsSettled (t : TopoView Config) (q : Queued) : Type 0 where
  pub counted : IsCounted t
  pub quiet : IsQuiet t
  pub room : owed_events t ≤ q.spare

-- with a consumer of a geom, attached to a provider
abbrev pub with_consumer_at : TopoView Config → ℕ → ℕ → TopoView Config
with_consumer_at t geom prov = with_topology (with_consumer t geom) (add_consumer t.topology geom (Some prov))

-- the number that the next consumer gets
abbrev pub coming : TopoView Config → ℕ
coming t = t.topology.next_consumer

-- a consumer of DEV came to the provider and was granted these counts, and effects followed
pub record HasComer (t : TopoView Config) (prov : ℕ) (grant : Counts) (mid new : TopoView Config) : Type 0 where
  pub comes : IsButForRoom mid (granted_view (with_consumer_at t 1 prov) (coming t) grant)
  pub followed : Effects mid new

-- a consumer was released, effects followed, and then it went
pub record HasGoer (t : TopoView Config) (cons : ℕ) (mid last new : TopoView Config) : Type 0 where
  pub released : mid ≡ released_view t cons
  pub followed : Effects mid last
  pub goes : new ≡ without_consumer last cons
  pub granted : (c : ℕ) → granted_by new c ≡ granted_by last c

-- all is kept after a handle was opened
abbrev pub KeptAfterOpen : Type 0
KeptAfterOpen =
    (log : List Entry) (s : State) (t u : TopoView Config) (q : Queued) (v : HandlesView)
    (prov actor : ℕ) (name : List ℕ) (grant : Counts) → Holds s → StandsFirm log s
    → HasComer s.topo prov grant t u → IsSettled u q
    → v ≡ record (with_opened s.handles actor name (coming s.topo) grant) { room = v.room }
    → Holds (record s { topo = u; queue = q; handles = v })

-- after an open was refused, which used up a number, and for other room of the mesh, the queue and the handles
abbrev pub KeptAfterRefusal : Type 0
KeptAfterRefusal =
    (s : State) (u : TopoView Config) (q : Queued) (v : HandlesView) → Holds s → HasUsedNumber s.topo u
    → q.events ≡ s.queue.events → s.queue.spare ≤ q.spare → v ≡ record s.handles { room = v.room }
    → Holds (record s { topo = u; queue = q; handles = v })

-- after a handle was closed through whose consumer nothing was out
abbrev pub KeptAfterClose : Type 0
KeptAfterClose =
    (log : List Entry) (s : State) (t f u : TopoView Config) (q : Queued) (v : HandlesView) (h : Handle) (c : ℕ)
    → Holds s → StandsFirm log s → handle_at s.handles.handles h.number ≡ Some h → h.consumer ≡ Some c
    → value_at s.topo.active c ≡ Some 0 → HasGoer s.topo c t f u → IsSettled u q
    → v ≡ record s.handles {
      handles = closed s.handles.handles h.number;
      ready = without s.handles.ready h.number;
      room = v.room;
    }
    → Holds (record s { topo = u; queue = q; handles = v })

-- after a handle was closed that has no consumer
abbrev pub KeptAfterForget : Type 0
KeptAfterForget =
    (log : List Entry) (s : State) (v : HandlesView) (h : Handle) → Holds s → StandsFirm log s
    → handle_at s.handles.handles h.number ≡ Some h → h.consumer ≡ None
    → v ≡ record s.handles {
      handles = closed s.handles.handles h.number;
      ready = without s.handles.ready h.number;
      room = v.room;
    }
    → Holds (record s { handles = v })

-- after a handle was reaped
abbrev pub KeptAfterReap : Type 0
KeptAfterReap =
    (log : List Entry) (s : State) (t f u : TopoView Config) (q : Queued) (v : HandlesView) (h : Handle) (c : ℕ)
    → Holds s → StandsFirm log s → handle_at s.handles.handles h.number ≡ Some h → h.consumer ≡ Some c
    → value_at s.topo.active c ≡ Some 0 → HasGoer s.topo c t f u → IsSettled u q
    → v ≡ record s.handles {
      handles = released s.handles.handles c;
      ready = with_value s.handles.ready h.number false;
      room = v.room;
    }
    → Holds (record s { topo = u; queue = q; handles = v })

-- all of these
pub record KeptWithHandles : Type 0 where
  pub opened : KeptAfterOpen
  pub refused : KeptAfterRefusal
  pub closed : KeptAfterClose
  pub forgotten : KeptAfterForget
  pub reaped : KeptAfterReap
