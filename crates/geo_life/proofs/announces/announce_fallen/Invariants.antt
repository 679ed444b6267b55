-- What is left to announce gives what all gives; the notes alone changed, and there is a place for each that is left.
use Rattle.std.proofs.Common.{◌≡◌, ◌+◌, ◌≤◌, length}
use Rattle.geo_model.specs.Events.{announce_fallen}
use Rattle.geo_access.specs.Access.{noted, IsCounted}
use Rattle.geo_life.specs.Life.{queued, notes}
use Rattle.geo_life.proofs.announces.announce_fallen.Given as goal

abbrev pub invariant-loop-prov : goal.invariant-loop-prov
invariant-loop-prov g l = record {
  counted : IsCounted l.topo;
  announced : announce_fallen (noted l.topo.fallen) (queued l.topo l.queue)
      ≡ announce_fallen (noted l.fn.topo.fallen) (queued l.fn.topo l.fn.queue);
  mesh : l.topo ≡ record l.fn.topo { fallen = l.topo.fallen };
  memory : l.queue.spare + length l.queue.events ≡ l.fn.queue.spare + length l.fn.queue.events;
  owed : l.fn.queue.spare + notes l.topo.fallen ≤ l.queue.spare + notes l.fn.topo.fallen;
  room : notes l.topo.fallen ≤ l.queue.spare;
}

abbrev pub decreases-loop-prov : goal.decreases-loop-prov
decreases-loop-prov g l = notes l.topo.fallen
