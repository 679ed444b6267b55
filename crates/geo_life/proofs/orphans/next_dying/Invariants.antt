-- None of the consumers met so far is one of DEV.
use Rattle.std.proofs.Common.{◌≡◌, ◌-◌, ◌≤◌}
use Rattle.geo_model.specs.Events.{dying_consumers}
use Rattle.geo_laws_graph.specs.LookupLaws.{left_from}
use Rattle.geo_life.proofs.orphans.next_dying.Given as goal

abbrev pub invariant-loop-id : goal.invariant-loop-id
invariant-loop-id g l = record {
  left : left_from (λ n. n) l.rest (dying_consumers l.topo.topology l.prov)
      ≡ left_from (λ n. n) l.from (dying_consumers l.topo.topology l.prov);
  past : l.from ≤ l.rest;
}

abbrev pub decreases-loop-id : goal.decreases-loop-id
decreases-loop-id g l = l.topo.topology.next_consumer - l.rest
