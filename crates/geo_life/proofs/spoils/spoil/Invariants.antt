-- Once the marked ones that are left are spoiled, all are; a place is kept for each provider without an error.
use Rattle.std.proofs.Common.{◌≡◌, ◌+◌, ◌-◌, ◌≤◌}
use Rattle.geo_model.specs.Events.{spoil}
use Rattle.geo_life.specs.Life.{queued, sound_providers, RestStays}
use Rattle.geo_life.proofs.Spoiling.{spoil_left}
use Rattle.geo_life.proofs.spoils.spoil.Given as goal

abbrev pub invariant-loop-id : goal.invariant-loop-id
invariant-loop-id g l = record {
  spoiled : spoil_left l.prov (queued l.topo l.queue) l.from ≡ spoil (queued l.fn.topo l.fn.queue) l.prov;
  rest : RestStays l.fn.topo l.fn.queue l.topo l.queue;
  owed : l.queue.spare + sound_providers l.fn.topo.topology ≡ l.fn.queue.spare + sound_providers l.topo.topology;
  room : sound_providers l.topo.topology ≤ l.queue.spare;
}

abbrev pub decreases-loop-id : goal.decreases-loop-id
decreases-loop-id g l = l.topo.topology.next_consumer - l.from
