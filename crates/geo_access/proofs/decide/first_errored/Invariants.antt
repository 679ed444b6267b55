-- The best so far, compared with what is under the geoms left, is the best of all; the geoms left stand.
use Rattle.std.proofs.Common.{◌≡◌, fold, All, IsSome, None}
use Rattle.geo_model.specs.Topology.{geom_at, providers_under}
use Rattle.geo_access.specs.Views.{order_of, lesser}
use Rattle.geo_access.proofs.decide.first_errored.Given as goal

abbrev pub invariant-loop-geom : goal.invariant-loop-geom
invariant-loop-geom g l = record {
  lives : All (λ x. IsSome (geom_at l.topo.topology x)) (order_of l.topo l.rest);
  least : fold (λ best x. fold (lesser l.topo) best (providers_under l.topo.topology x)) l.best
      (order_of l.topo l.rest) ≡ fold (λ best x. fold (lesser l.topo) best (providers_under l.topo.topology x))
      (lesser l.topo None l.fn.prov) (order_of l.topo l.fn.order);
}

abbrev pub decreases-loop-geom : goal.decreases-loop-geom
decreases-loop-geom g l = l.rest.count
