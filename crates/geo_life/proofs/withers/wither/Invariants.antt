-- Once those left without an error are orphaned, all are; a place is kept for each provider without an error.
use Rattle.std.proofs.Common.{◌≡◌, ◌+◌, ◌-◌, ◌≤◌}
use Rattle.geo_model.specs.Events.{wither}
use Rattle.geo_life.specs.Life.{queued, sound_providers, RestStays}
use Rattle.geo_life.proofs.Withering.{orphan_left}
use Rattle.geo_life.proofs.withers.wither.Given as goal

abbrev pub invariant-loop-id : goal.invariant-loop-id
invariant-loop-id g l = record {
  withered : orphan_left l.geom (queued l.topo l.queue) l.from
      ≡ wither (queued l.fn.topo l.fn.queue) l.geom;
  rest : RestStays l.fn.topo l.fn.queue l.topo l.queue;
  owed : l.queue.spare + sound_providers l.fn.topo.topology ≡ l.fn.queue.spare + sound_providers l.topo.topology;
  room : sound_providers l.topo.topology ≤ l.queue.spare;
}

abbrev pub decreases-loop-id : goal.decreases-loop-id
decreases-loop-id g l = l.topo.topology.next_provider - l.from
