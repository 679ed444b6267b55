-- One of the consumers that are left has a standing geom of the class just where one of all has.
use Rattle.std.proofs.Common.{◌≡◌, ◌-◌}
use Rattle.std.specs.List.{list_any}
use Rattle.geo_laws_graph.specs.LookupLaws.{left_from}
use Rattle.geo_taste.specs.Over.{over, stands_as}
use Rattle.geo_taste.proofs.over.is_attached.Given as goal

abbrev pub invariant-loop-id : goal.invariant-loop-id
invariant-loop-id l =
    list_any (λ y. stands_as l.topo.topology l.kind y.geom)
    (left_from (λ y. y.number) l.from (over l.topo.topology l.kind l.prov))
    ≡ list_any (λ y. stands_as l.topo.topology l.kind y.geom) (over l.topo.topology l.kind l.prov)

abbrev pub decreases-loop-id : goal.decreases-loop-id
decreases-loop-id l = l.topo.topology.next_consumer - l.from
