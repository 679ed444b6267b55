-- Consumers of handles in the mesh: one that goes with what it was granted, and one that comes with a grant
-- (g_access(9), g_attach(9), g_detach(9)).
use Rattle.std.specs.Prelude.{◌≡◌, ℕ, ◌+◌, ◌≤◌, ◌==◌, not, length, count_by}
use Rattle.geo_base.specs.declared.request.Counts.{Counts}
use Rattle.geo_model.specs.Topology.{remove_consumer}
use Rattle.geo_model.specs.Demand.{no_counts, risen, fallen}
use Rattle.geo_model.specs.Opens.{with_grant, with_opener}
use Rattle.geo_model.specs.Events.{announce_risen, announce_fallen}
use Rattle.geo_event.specs.EventQueue.{Queued}
use Rattle.geo_mesh.specs.Topo.{TopoView, Room, with_consumer, without_consumer, with_topology}
use Rattle.geo_access.specs.Access.{granted_by, granted_view, released_view, IsCounted, IsQuiet}
use Rattle.geo_life.specs.Life.{queued, without_rises, without_falls}

module _ {C : Type 0} where
  -- how many providers have a write count
  abbrev pub written : TopoView C → ℕ
  written t = count_by (λ (row : ℕ × Counts). not (row.1.w == 0)) t.haves

  -- what each consumer is granted once the next one comes with a grant
  abbrev pub grants_with : TopoView C → Counts → ℕ → Counts
  grants_with t add = with_grant (granted_by t) t.topology.next_consumer add

  -- with the next consumer, of DEV, at a provider; it holds nothing yet
  abbrev pub opened_mesh : TopoView C → ℕ → Room → TopoView C
  opened_mesh t p room = record (with_consumer t 1) { topology = with_opener t.topology p; room = room }

  -- and once it was granted its counts
  abbrev pub holding_mesh : TopoView C → ℕ → Counts → Room → TopoView C
  holding_mesh t p add room = granted_view (opened_mesh t p room) t.topology.next_consumer add

  -- a consumer has given back what it was granted, and is gone: each provider whose write count came to zero is
  -- offered for taste again, in order of numbers; the others keep what they were granted, and no note is set
  pub record HasGone (t : TopoView C) (q : Queued) (c : ℕ) (new : TopoView C) (queue : Queued) : Type 0 where
    pub mesh : new ≡ without_falls (without_consumer (released_view t c) c)
    pub announced : queued new queue
        ≡ announce_fallen (fallen (granted_by t) t.topology (with_grant (granted_by t) c no_counts) t.topology)
        (record { topology = remove_consumer t.topology c; events = q.events })
    pub granted : (n : ℕ) → granted_by new n ≡ granted_by (released_view t c) n
    pub counted : IsCounted new
    pub quiet : IsQuiet new
    pub room : q.spare + written new ≤ queue.spare + written t

  -- a new consumer of DEV has come to a provider with a grant: at each provider whose write count left zero consumers
  -- are marked and Spoil is posted, in order of numbers; the others keep what they were granted, and no note is set
  pub record HasCome (t : TopoView C) (q : Queued) (p : ℕ) (add : Counts) (new : TopoView C) (queue : Queued)
      : Type 0 where
    pub mesh : new ≡ with_topology (without_rises (holding_mesh t p add new.room)) new.topology
    pub announced : queued new queue
        ≡ announce_risen (grants_with t add)
        (risen (granted_by t) t.topology (grants_with t add) (with_opener t.topology p))
        (record { topology = with_opener t.topology p; events = q.events })
    pub granted : (n : ℕ) → granted_by new n ≡ granted_by (holding_mesh t p add new.room) n
    pub counted : IsCounted new
    pub quiet : IsQuiet new
    pub room : q.spare ≤ queue.spare + length t.topology.providers
