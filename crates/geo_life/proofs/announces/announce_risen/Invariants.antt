-- What is left to announce gives what all gives; marks and notes alone changed, and each left note has a place.
use Rattle.std.proofs.Common.{◌≡◌, ◌+◌, ◌≤◌, ℕ, length}
use Rattle.geo_base.specs.declared.request.Counts.{Counts}
use Rattle.geo_model.specs.Events.{announce_risen}
use Rattle.geo_laws_counts.specs.CountWords.{seen_by_counts}
use Rattle.geo_access.specs.Access.{noted, IsCounted}
use Rattle.geo_life.specs.Life.{queued, notes, IsDevMade, AreStored}
use Rattle.geo_life.proofs.announces.announce_risen.Given as goal

abbrev pub invariant-loop-prov : goal.invariant-loop-prov
invariant-loop-prov g l = record {
  made : IsDevMade l.topo.topology;
  counted : IsCounted l.topo;
  announced : (granted : ℕ → Counts) → AreStored granted l.fn.topo
      → announce_risen granted (noted l.topo.risen) (queued l.topo l.queue)
      ≡ announce_risen granted (noted l.fn.topo.risen) (queued l.fn.topo l.fn.queue);
  mesh : l.topo ≡ record l.fn.topo { topology = l.topo.topology; risen = l.topo.risen };
  seen : seen_by_counts l.topo.topology ≡ seen_by_counts l.fn.topo.topology;
  memory : l.queue.spare + length l.queue.events ≡ l.fn.queue.spare + length l.fn.queue.events;
  owed : l.queue.spare + notes l.fn.topo.risen ≡ l.fn.queue.spare + notes l.topo.risen;
  room : notes l.topo.risen ≤ l.queue.spare;
}

abbrev pub decreases-loop-prov : goal.decreases-loop-prov
decreases-loop-prov g l = notes l.topo.risen
