-- Once the providers left are finished, all of the geom are; the graph is as before.
use Rattle.std.proofs.Common.{◌≡◌, ◌-◌, fold}
use Rattle.geo_laws_graph.specs.LookupLaws.{left_from}
use Rattle.geo_model.specs.Topology.{providers_of}
use Rattle.geo_access.specs.Views.{finish_provider}
use Rattle.geo_access.proofs.finish.finish_providers.Given as goal

abbrev pub invariant-loop-id : goal.invariant-loop-id
invariant-loop-id g l = record {
  graph : l.topo.topology ≡ l.initial.topo.topology;
  finished : fold (finish_provider l.keep) l.topo
      (left_from (λ y. y.number) l.from (providers_of l.topo.topology l.geom))
      ≡ fold (finish_provider l.keep) l.initial.topo (providers_of l.initial.topo.topology l.geom);
}

abbrev pub decreases-loop-id : goal.decreases-loop-id
decreases-loop-id g l = l.topo.topology.next_provider - l.from
