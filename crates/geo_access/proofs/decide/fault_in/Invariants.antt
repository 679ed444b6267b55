-- The first fault at the providers that are left is the first of all.
use Rattle.std.proofs.Common.{◌≡◌, ◌-◌}
use Rattle.geo_laws_graph.specs.LookupLaws.{left_from}
use Rattle.geo_model.specs.Topology.{providers_of}
use Rattle.geo_access.specs.Views.{fault_at, fault_in, first_given}
use Rattle.geo_access.proofs.decide.fault_in.Given as goal

abbrev pub invariant-loop-id : goal.invariant-loop-id
invariant-loop-id g l =
    first_given (λ y. fault_at l.topo l.asked y.number)
    (left_from (λ y. y.number) l.from (providers_of l.topo.topology l.geom))
    ≡ fault_in l.topo l.asked l.geom

abbrev pub decreases-loop-id : goal.decreases-loop-id
decreases-loop-id g l = l.topo.topology.next_provider - l.from
