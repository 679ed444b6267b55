-- Once those that are left are put behind them, all are.
use Rattle.std.proofs.Common.{◌≡◌, ◌-◌, fold, flat_map}
use Rattle.geo_laws_graph.specs.LookupLaws.{left_from}
use Rattle.geo_life.specs.Life.{consumers_above}
use Rattle.geo_moves.specs.Above.{offers_of, users_of, with_number}
use Rattle.geo_moves.proofs.above.push_users.Given as goal

abbrev pub invariant-loop-id : goal.invariant-loop-id
invariant-loop-id l =
    fold with_number l.above.items
    (flat_map (λ c. offers_of l.topo.topology c.geom)
    (left_from (λ y. y.number) l.from (consumers_above l.topo.topology l.prov)))
    ≡ fold with_number l.fn.above.items (users_of l.topo.topology l.prov)

abbrev pub decreases-loop-id : goal.decreases-loop-id
decreases-loop-id l = l.topo.topology.next_consumer - l.from
