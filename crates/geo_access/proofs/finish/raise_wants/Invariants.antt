-- Once the consumers left have what they gain, all of the geom have; the graph is as before.
use Rattle.std.proofs.Common.{◌≡◌, ◌-◌, fold}
use Rattle.geo_laws_graph.specs.LookupLaws.{left_from}
use Rattle.geo_model.specs.Topology.{consumers_of}
use Rattle.geo_access.specs.Views.{raise_want}
use Rattle.geo_access.proofs.finish.raise_wants.Given as goal

abbrev pub invariant-loop-id : goal.invariant-loop-id
invariant-loop-id g l = record {
  graph : l.topo.topology ≡ l.initial.topo.topology;
  raised : fold (raise_want l.way l.gain) l.topo
      (left_from (λ y. y.number) l.from (consumers_of l.topo.topology l.geom))
      ≡ fold (raise_want l.way l.gain) l.initial.topo (consumers_of l.initial.topo.topology l.geom);
}

abbrev pub decreases-loop-id : goal.decreases-loop-id
decreases-loop-id g l = l.topo.topology.next_consumer - l.from
