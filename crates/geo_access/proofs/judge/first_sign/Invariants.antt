-- The first sign among the geoms that are left is the first of all; the geoms left stand.
use Rattle.std.proofs.Common.{◌≡◌, All, IsSome}
use Rattle.geo_model.specs.Topology.{geom_at}
use Rattle.geo_access.specs.Views.{order_of, sign_in, first_given}
use Rattle.geo_access.proofs.judge.first_sign.Given as goal

abbrev pub invariant-loop-geom : goal.invariant-loop-geom
invariant-loop-geom g l = record {
  lives : All (λ x. IsSome (geom_at l.topo.topology x)) (order_of l.topo l.rest);
  first : first_given (sign_in l.topo) (order_of l.topo l.rest)
      ≡ first_given (sign_in l.topo) (order_of l.topo l.fn.order);
}

abbrev pub decreases-loop-geom : goal.decreases-loop-geom
decreases-loop-geom g l = l.rest.count
