-- The first sign among the consumers that are left is the first of all.
use Rattle.std.proofs.Common.{◌≡◌, ◌-◌}
use Rattle.geo_laws_graph.specs.LookupLaws.{left_from}
use Rattle.geo_model.specs.Topology.{consumers_of}
use Rattle.geo_access.specs.Views.{sign_at, sign_in, first_given}
use Rattle.geo_access.proofs.judge.sign_in.Given as goal

abbrev pub invariant-loop-id : goal.invariant-loop-id
invariant-loop-id g l =
    first_given (sign_at l.topo)
    (left_from (λ y. y.number) l.from (consumers_of l.topo.topology l.geom))
    ≡ sign_in l.topo l.geom

abbrev pub decreases-loop-id : goal.decreases-loop-id
decreases-loop-id g l = l.topo.topology.next_consumer - l.from
