-- What was visited so far, and then what is under the consumers left, is what is visited under all.
use Rattle.std.proofs.Common.{◌≡◌, ℕ, suc, ◌-◌, ◌≤◌, fold}
use Rattle.geo_model.specs.Topology.{consumers_of}
use Rattle.geo_model.specs.Rank.{rank}
use Rattle.geo_laws_graph.specs.LookupLaws.{left_from}
use Rattle.geo_access.specs.Views.{visit_under}
use Rattle.geo_access.proofs.order.+gather.Given as goal

abbrev pub decreases-gather : goal.decreases-gather
decreases-gather g l = rank l.topo.now.topology l.geom

abbrev pub invariant-loop-id : goal.invariant-loop-id
invariant-loop-id g l = record {
  graph : l.topo.topology ≡ l.initial.topo.topology;
  gathered : (levels : ℕ) → rank l.topo.topology l.geom ≤ suc levels
      → fold (visit_under levels) (record { view = l.topo; order = l.order })
      (left_from (λ y. y.number) l.from (consumers_of l.topo.topology l.geom))
      ≡ fold (visit_under levels) (record { view = l.initial.topo; order = l.initial.order })
      (consumers_of l.initial.topo.topology l.geom);
}

abbrev pub decreases-loop-id : goal.decreases-loop-id
decreases-loop-id g l = l.topo.topology.next_consumer - l.from
