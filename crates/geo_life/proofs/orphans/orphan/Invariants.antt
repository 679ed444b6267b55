-- Once those above that are left have heard of it, all have; a place is kept for each provider without an error.
use Rattle.std.proofs.Common.{◌≡◌, ◌+◌, ◌-◌, ◌≤◌}
use Rattle.geo_model.specs.Events.{orphan, orphan_consumer}
use Rattle.geo_mesh.specs.Graph.{IsSoundGraph}
use Rattle.geo_life.specs.Life.{queued, sound_providers, RestStays}
use Rattle.geo_life.proofs.Rest.{IsKnown}
use Rattle.geo_life.proofs.Spoiling.{hear_left, heard_leaves}
use Rattle.geo_life.proofs.orphans.orphan.Given as goal

abbrev pub invariant-loop-id : goal.invariant-loop-id
invariant-loop-id g l = record {
  orphaned : IsSoundGraph l.fn.topo.topology
      → hear_left l.prov orphan_consumer heard_leaves (queued l.topo l.queue) l.from
      ≡ orphan (queued l.fn.topo l.fn.queue) l.prov;
  known : IsKnown l.fn.topo l.topo;
  rest : RestStays l.fn.topo l.fn.queue l.topo l.queue;
  owed : l.queue.spare + sound_providers l.fn.topo.topology ≡ l.fn.queue.spare + sound_providers l.topo.topology;
  room : sound_providers l.topo.topology ≤ l.queue.spare;
}

abbrev pub decreases-loop-id : goal.decreases-loop-id
decreases-loop-id g l = l.topo.topology.next_consumer - l.from
