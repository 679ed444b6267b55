-- Once the geoms left are finished, all are; they stand, and each is left once.
use Rattle.std.proofs.Common.{◌≡◌, fold, All, IsSome}
use Rattle.geo_model.specs.Topology.{geom_at}
use Rattle.geo_access.specs.Tries.{Apart}
use Rattle.geo_access.specs.Views.{order_of, finish_geom}
use Rattle.geo_access.proofs.finish.finish.Given as goal

abbrev pub invariant-loop-geom : goal.invariant-loop-geom
invariant-loop-geom g l = record {
  lives : All (λ x. IsSome (geom_at l.topo.topology x)) (order_of l.topo l.rest);
  apart : Apart (order_of l.topo l.rest);
  finished : fold (finish_geom l.keep) l.topo (order_of l.topo l.rest)
      ≡ fold (finish_geom l.keep) l.initial.topo (order_of l.initial.topo l.fn.order);
}

abbrev pub decreases-loop-geom : goal.decreases-loop-geom
decreases-loop-geom g l = l.rest.count
