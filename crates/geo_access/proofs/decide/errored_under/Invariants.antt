-- The best so far, compared with what those left are attached to, is the best of all.
use Rattle.std.proofs.Common.{◌≡◌, ◌-◌, fold}
use Rattle.std.specs.Option.{option_map_or}
use Rattle.geo_laws_graph.specs.LookupLaws.{left_from}
use Rattle.geo_model.specs.Topology.{consumers_of, providers_under}
use Rattle.geo_access.specs.Views.{lesser}
use Rattle.geo_access.proofs.decide.errored_under.Given as goal

abbrev pub invariant-loop-id : goal.invariant-loop-id
invariant-loop-id g l =
    fold (λ b x. option_map_or (lesser l.topo b) x.provider b) l.best
    (left_from (λ y. y.number) l.from (consumers_of l.topo.topology l.geom))
    ≡ fold (lesser l.topo) l.fn.start (providers_under l.topo.topology l.geom)

abbrev pub decreases-loop-id : goal.decreases-loop-id
decreases-loop-id g l = l.topo.topology.next_consumer - l.from
