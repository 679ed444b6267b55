-- So many consumers were met, fewer than sixteen, and the others are left.
use Rattle.std.proofs.Common.{◌≡◌, ◌+◌, ◌-◌, ◌<◌, length}
use Rattle.geo_base.specs.declared.limits.TheConstants.{MAX_COMPONENTS}
use Rattle.geo_model.specs.Topology.{consumers_of}
use Rattle.geo_laws_graph.specs.LookupLaws.{left_from}
use Rattle.geo_moves.proofs.growths.is_full.Given as goal

abbrev pub invariant-loop-id : goal.invariant-loop-id
invariant-loop-id l =
    (l.count + length (left_from (λ y. y.number) l.from (consumers_of l.topo.topology l.geom))
    ≡ length (consumers_of l.topo.topology l.geom)) × (l.count < MAX_COMPONENTS)

abbrev pub decreases-loop-id : goal.decreases-loop-id
decreases-loop-id l = l.topo.topology.next_consumer - l.from
