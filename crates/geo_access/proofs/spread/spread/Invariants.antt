-- Once the geoms left have spread, all of the order have, at a step for each of their consumers.
use Rattle.std.proofs.Common.{◌≡◌, ◌+◌, fold, All, IsSome}
use Rattle.geo_model.specs.Topology.{geom_at}
use Rattle.geo_access.specs.Views.{order_of, spread_from, consumers_over}
use Rattle.geo_access.proofs.spread.spread.Given as goal

abbrev pub invariant-loop-geom : goal.invariant-loop-geom
invariant-loop-geom g l = record {
  graph : l.topo.topology ≡ l.initial.topo.topology;
  lives : All (λ x. IsSome (geom_at l.topo.topology x)) (order_of l.topo l.rest);
  spread : fold (spread_from l.way) l.topo (order_of l.topo l.rest)
      ≡ fold (spread_from l.way) l.initial.topo (order_of l.initial.topo l.fn.order);
  steps : l.steps + consumers_over l.topo.topology (order_of l.topo l.rest)
      ≡ l.initial.steps + consumers_over l.initial.topo.topology (order_of l.initial.topo l.fn.order);
}

abbrev pub decreases-loop-geom : goal.decreases-loop-geom
decreases-loop-geom g l = l.rest.count
