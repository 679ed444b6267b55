-- Once the consumers left have handed down, all of the geom have, at a step each.
use Rattle.std.proofs.Common.{◌≡◌, ◌+◌, ◌-◌, length, fold}
use Rattle.geo_laws_graph.specs.LookupLaws.{left_from}
use Rattle.geo_model.specs.Topology.{consumers_of}
use Rattle.geo_access.specs.Views.{hand}
use Rattle.geo_access.proofs.spread.hand_down.Given as goal

abbrev pub invariant-loop-id : goal.invariant-loop-id
invariant-loop-id g l = record {
  graph : l.topo.topology ≡ l.initial.topo.topology;
  handed : fold (hand l.gain) l.topo (left_from (λ y. y.number) l.from (consumers_of l.topo.topology l.geom))
      ≡ fold (hand l.gain) l.initial.topo (consumers_of l.initial.topo.topology l.geom);
  steps : l.steps + length (left_from (λ y. y.number) l.from (consumers_of l.topo.topology l.geom))
      ≡ l.initial.steps + length (consumers_of l.initial.topo.topology l.geom);
}

abbrev pub decreases-loop-id : goal.decreases-loop-id
decreases-loop-id g l = l.topo.topology.next_consumer - l.from
