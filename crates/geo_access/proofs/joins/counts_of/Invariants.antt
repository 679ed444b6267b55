-- The sum so far, with the counts of the providers left, is the sum of all.
use Rattle.std.proofs.Common.{◌≡◌, ◌-◌, fold}
use Rattle.geo_laws_graph.specs.LookupLaws.{left_from}
use Rattle.geo_model.specs.Topology.{providers_of}
use Rattle.geo_model.specs.Demand.{no_counts}
use Rattle.geo_access.specs.Join.{with_have_of}
use Rattle.geo_access.proofs.joins.counts_of.Given as goal

abbrev pub invariant-loop-id : goal.invariant-loop-id
invariant-loop-id g l =
    fold (with_have_of l.topo) l.sum (left_from (λ y. y.number) l.from (providers_of l.topo.topology l.geom))
    ≡ fold (with_have_of l.topo) no_counts (providers_of l.topo.topology l.geom)

abbrev pub decreases-loop-id : goal.decreases-loop-id
decreases-loop-id g l = l.topo.topology.next_provider - l.from
