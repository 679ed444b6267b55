-- What is kept after the effects of events, and the world then.
use Rattle.std.specs.Prelude.{◌≡◌, ℕ, ◌+◌, ◌≤◌, ◌==◌, not, List, [], ◌∷◌, drop, fold, count_by}
use Rattle.std.proofs.Common.{refl, sym, ◌∙◌, ap, subst, arith, rules}
use Rattle.std.proofs.lemmas.List.Sums.{length-filter}
use Rattle.geo_base.specs.declared.request.Counts.{Counts}
use Rattle.geo_model.specs.declared.command.LineCommand.{LineCommand}
use Rattle.geo_model.specs.declared.step.Entry.{Entry}
use Rattle.geo_model.specs.declared.step.Event.TheVariants as heads
use Rattle.geo_model.specs.Topology.{Topology, Provider}
use Rattle.geo_model.specs.Events.{QueuedTopology, spoil, orphan, resize, dying_consumers}
use Rattle.geo_model.specs.World.{World, Config, Handle, granted_in}
use Rattle.geo_model.specs.WorldEvents.{do_event, with_queued, kill_handle}
use Rattle.geo_event.specs.EventQueue.{Queued}
use Rattle.geo_mesh.specs.Topo.{TopoView}
use Rattle.geo_access.specs.Access.{granted_by}
use Rattle.geo_handles.specs.Handles.{HandlesView, killed}
use Rattle.geo_life.specs.Life.{queued, sound_providers, RestStays, AreStored, CountsStay}
use Rattle.geo_life.proofs.Places.{counts_are_stored}
use Rattle.geo_state.specs.declared.state.State.{State}
use Rattle.geo_state.specs.Parts.{SameParts}
use Rattle.geo_state.specs.Holds.{Holds, owed_events}
use Rattle.geo_state.specs.World.{world}
use Rattle.geo_state.proofs.LawLemmas.{effects_keep_parts, holds_after_effects}
use Rattle.geo_moves.specs.Steps.{HasDone, without_head}
use Rattle.geo_moves.specs.Killing.{killed_at}

-- how many providers carry no error, and how many have a write count
abbrev good : Topology Config → ℕ
good t = count_by (λ (p : Provider). not p.errored) t.providers

-- how many providers have a write count
abbrev written : TopoView Config → ℕ
written t = count_by (λ (row : ℕ × Counts). not (row.1.w == 0)) t.haves

-- those without an error, as effects count them
good-is : (t : Topology Config) → sound_providers t ≡ good t
good-is t = length-filter (λ (p : Provider). not p.errored) t.providers

-- a queue whose head is taken away
abbrev pub headless : Queued → Queued
headless q = record { events = drop 1 q.events; spare = q.spare + 1 }

module _ (s : State) (kept : Holds s) where
  -- there is a place for each provider without an error
  pub room-for : sound_providers s.topo.topology + 1 ≤ s.queue.spare + 1
  room-for = search (rules, good-is s.topo.topology)

  -- also without the place of the head
  pub room-of : sound_providers s.topo.topology ≤ s.queue.spare + 1
  room-of = let more = room-for in omega (arith, more)

  module _ (u : TopoView Config) (q : Queued) (rest : RestStays s.topo (headless s.queue) u q)
      (counts_stay : CountsStay s.topo u)
      (owed : s.queue.spare + 1 + sound_providers u.topology ≤ q.spare + sound_providers s.topo.topology + 1) where
    room-left : owed_events u ≤ q.spare
    room-left = search (rules, good-is s.topo.topology, good-is u.topology)

    -- all is kept after effects that leave the parts
    effects-kept : SameParts s.topo.topology u.topology → Holds (record s { topo = u; queue = q })
    effects-kept parts =
        holds_after_effects s u q kept parts (ap (λ (v : TopoView Config). v.active) rest.mesh) counts_stay.granted
        (counts_stay.counted kept.counted) (counts_stay.quiet kept.quiet) room-left

    -- so after a Spoil
    pub spoil-kept : (p : ℕ) → queued u q ≡ spoil (queued s.topo (headless s.queue)) p
        → Holds (record s { topo = u; queue = q })
    spoil-kept p same =
        effects-kept
        (subst (λ (r : QueuedTopology Config). SameParts s.topo.topology r.topology) (sym same)
        ((effects_keep_parts (granted_by s.topo) (queued s.topo (headless s.queue))).spoiled p))

    -- after an Orphan
    pub orphan-kept : (p : ℕ) → queued u q ≡ orphan (queued s.topo (headless s.queue)) p
        → Holds (record s { topo = u; queue = q })
    orphan-kept p same =
        effects-kept
        (subst (λ (r : QueuedTopology Config). SameParts s.topo.topology r.topology) (sym same)
        ((effects_keep_parts (granted_by s.topo) (queued s.topo (headless s.queue))).orphaned p))

    -- and after a Resize
    pub resize-kept : (p : ℕ)
        → ((granted : ℕ → Counts) → AreStored granted s.topo
        → queued u q ≡ resize granted (queued s.topo (headless s.queue)) p)
        → Holds (record s { topo = u; queue = q })
    resize-kept p same =
        effects-kept
        (subst (λ (r : QueuedTopology Config). SameParts s.topo.topology r.topology)
        (sym (same (granted_by s.topo)
        (counts_are_stored s.topo (granted_by s.topo) kept.counted (λ c. refl))))
        ((effects_keep_parts (granted_by s.topo) (queued s.topo (headless s.queue))).resized p))

  -- the counts are stored by what the world grants
  pub stored-in : (actors : List (List LineCommand)) (log : List Entry)
      → AreStored (granted_in (world actors log s)) s.topo
  stored-in actors log = search rules

  -- The worlds

  -- a Spoil is done
  pub spoil-done : (u : TopoView Config) (q : Queued) (p : ℕ)
      → queued u q ≡ spoil (queued s.topo (headless s.queue)) p
      → HasDone s (record s { topo = u; queue = q }) (heads.Spoil p)
  unfolding do_event
  spoil-done u q p same actors log = ap (with_queued (without_head (world actors log s))) same

  -- a Resize is done
  pub resize-done : (u : TopoView Config) (q : Queued) (p : ℕ)
      → ((granted : ℕ → Counts) → AreStored granted s.topo
      → queued u q ≡ resize granted (queued s.topo (headless s.queue)) p)
      → HasDone s (record s { topo = u; queue = q }) (heads.Resize p)
  unfolding do_event
  resize-done u q p same actors log =
      ap (with_queued (without_head (world actors log s)))
      (same (granted_in (world actors log s)) (stored-in actors log))

-- a Resize of a queue without its head
pub resized-from : (s : State) (q : Queued) → q ≡ headless s.queue → (u : TopoView Config) (v : Queued) (p : ℕ)
    → ((granted : ℕ → Counts) → AreStored granted s.topo → queued u v ≡ resize granted (queued s.topo q) p)
    → (granted : ℕ → Counts) → AreStored granted s.topo
    → queued u v ≡ resize granted (queued s.topo (headless s.queue)) p
resized-from s q is u v p resized granted stored = search rules

-- handles that become dead one after another
kills : (w : World) (cs : List ℕ) → fold kill_handle w cs ≡ record w { handles = fold killed w.handles cs }
kills w [] = refl
kills w (c ∷ cs) = kills (kill_handle w c) cs

-- an Orphan is done
pub orphan-done : (s : State) (v : HandlesView) (u : TopoView Config) (q : Queued) (p : ℕ)
    → v ≡ record s.handles { handles = killed_at s.topo.topology p s.handles.handles; ready = v.ready }
    → queued u q ≡ orphan (queued s.topo (headless s.queue)) p
    → HasDone s (record s { topo = u; queue = q; handles = v }) (heads.Orphan p)
unfolding do_event
orphan-done s v u q p is same actors log =
    let w : World = without_head (world actors log s) in
    let dead : List Handle = killed_at s.topo.topology p s.handles.handles in
    ap (λ (hs : HandlesView). record w {
      topology = u.topology;
      events = q.events;
      handles = hs.handles;
      next_handle = hs.next;
    }) is
    ∙ ap (with_queued (record w { handles = dead })) same
    ∙ ap (λ (x : World). with_queued x (orphan (queued s.topo (headless s.queue)) p))
    (sym (kills w (dying_consumers s.topo.topology p)))

-- Effects over a queue whose head was taken away

module _ (s : State) (mid : Queued) (is : mid ≡ headless s.queue) (u : TopoView Config) (q : Queued) where
  pub rest-of : RestStays s.topo mid u q → RestStays s.topo (headless s.queue) u q
  rest-of rest = subst (λ (r : Queued). RestStays s.topo r u q) is rest

  -- as many places are owed as are left
  pub owed-same : q.spare + sound_providers s.topo.topology ≡ mid.spare + sound_providers u.topology
      → s.queue.spare + 1 + sound_providers u.topology ≤ q.spare + sound_providers s.topo.topology + 1
  owed-same owed = search rules

  -- or one more is owed
  pub owed-one : mid.spare + sound_providers u.topology ≤ q.spare + sound_providers s.topo.topology + 1
      → s.queue.spare + 1 + sound_providers u.topology ≤ q.spare + sound_providers s.topo.topology + 1
  owed-one owed = search rules

-- places before and after the head is taken away
pub room-after : (n : ℕ) (q mid : Queued) → mid ≡ headless q → n ≤ q.spare + 1 → n ≤ mid.spare
room-after n q mid is enough = subst (λ (r : Queued). n ≤ r.spare) (sym is) enough

-- handles became dead, and then the Orphan was done
pub orphan-from : (s now : State) (p : ℕ)
    → now ≡ record s {
      handles = record s.handles {
        handles = killed_at s.topo.topology p s.handles.handles;
        ready = now.handles.ready;
      };
    }
    → (u : TopoView Config) (q : Queued) → queued u q ≡ orphan (queued now.topo (headless now.queue)) p
    → HasDone s (record now { topo = u; queue = q }) (heads.Orphan p)
orphan-from s now p is u q =
    let v : HandlesView = record s.handles {
      handles = killed_at s.topo.topology p s.handles.handles;
      ready = now.handles.ready;
    } in
    subst (λ (z : State). queued u q ≡ orphan (queued z.topo (headless z.queue)) p
    → HasDone s (record z { topo = u; queue = q }) (heads.Orphan p)) (sym is) (orphan-done s v u q p refl)
