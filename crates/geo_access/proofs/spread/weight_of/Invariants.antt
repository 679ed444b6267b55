-- The weight so far, with that of the providers left, is the weight of all.
use Rattle.std.proofs.Common.{◌≡◌, ◌-◌, true, fold}
use Rattle.geo_laws_graph.specs.LookupLaws.{left_from}
use Rattle.geo_model.specs.Topology.{providers_of}
use Rattle.geo_model.specs.Demand.{no_counts}
use Rattle.geo_access.specs.Views.{weigh}
use Rattle.geo_access.proofs.spread.weight_of.Given as goal

abbrev pub invariant-loop-id : goal.invariant-loop-id
invariant-loop-id g l =
    fold (weigh l.topo l.way) l.weight (left_from (λ y. y.number) l.from (providers_of l.topo.topology l.geom))
    ≡ fold (weigh l.topo l.way) (record { sum = no_counts; quiet = true }) (providers_of l.topo.topology l.geom)

abbrev pub decreases-loop-id : goal.decreases-loop-id
decreases-loop-id g l = l.topo.topology.next_provider - l.from
