-- Once the outgrown ones that are left wither, all do; counts are as stored, and each sound provider has a place.
use Rattle.std.proofs.Common.{◌≡◌, ◌+◌, ◌-◌, ◌≤◌, ℕ}
use Rattle.std.specs.Prelude.{fold}
use Rattle.geo_base.specs.declared.request.Counts.{Counts}
use Rattle.geo_model.specs.Topology.{attached_to}
use Rattle.geo_model.specs.Events.{outgrow_consumer}
use Rattle.geo_laws_counts.specs.CountWords.{seen_by_counts}
use Rattle.geo_life.specs.Life.{queued, sound_providers, RestStays, AreStored}
use Rattle.geo_life.proofs.Spoiling.{hear_left, outgrow_leaves}
use Rattle.geo_life.proofs.resizes.outgrow.Given as goal

abbrev pub invariant-loop-id : goal.invariant-loop-id
invariant-loop-id g l = record {
  outgrown : (granted : ℕ → Counts) → AreStored granted l.fn.topo
      → hear_left l.prov (outgrow_consumer granted) (outgrow_leaves granted) (queued l.topo l.queue) l.from
      ≡ fold (outgrow_consumer granted) (queued l.fn.topo l.fn.queue) (attached_to l.fn.topo.topology l.prov);
  rest : RestStays l.fn.topo l.fn.queue l.topo l.queue;
  seen : seen_by_counts l.topo.topology ≡ seen_by_counts l.fn.topo.topology;
  owed : l.queue.spare + sound_providers l.fn.topo.topology ≡ l.fn.queue.spare + sound_providers l.topo.topology;
  room : sound_providers l.topo.topology ≤ l.queue.spare;
}

abbrev pub decreases-loop-id : goal.decreases-loop-id
decreases-loop-id g l = l.topo.topology.next_consumer - l.from
