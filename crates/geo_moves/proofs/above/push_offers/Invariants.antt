-- Once those that are left are put behind them, all are.
use Rattle.std.proofs.Common.{◌≡◌, ◌-◌, map, fold}
use Rattle.geo_model.specs.Topology.{providers_of}
use Rattle.geo_laws_graph.specs.LookupLaws.{left_from}
use Rattle.geo_moves.specs.Above.{offers_of, with_number}
use Rattle.geo_moves.proofs.above.push_offers.Given as goal

abbrev pub invariant-loop-id : goal.invariant-loop-id
invariant-loop-id l =
    fold with_number l.above.items
    (map (λ y. y.number) (left_from (λ y. y.number) l.from (providers_of l.topo.topology l.geom)))
    ≡ fold with_number l.fn.above.items (offers_of l.topo.topology l.geom)

abbrev pub decreases-loop-id : goal.decreases-loop-id
decreases-loop-id l = l.topo.topology.next_provider - l.from
