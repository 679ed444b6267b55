-- The first that stands of those that are left is the first of all.
use Rattle.std.proofs.Common.{◌≡◌, ◌-◌, ◌&&◌, not, find}
use Rattle.geo_model.specs.Words.{is_kind, same_name}
use Rattle.geo_moves.specs.Names.{named_from, stands}
use Rattle.geo_moves.proofs.names.named_geom.Given as goal

abbrev pub invariant-loop-id : goal.invariant-loop-id
invariant-loop-id l =
    find stands (named_from l.topo.topology l.kind l.name l.from)
    ≡ find (λ g. is_kind g.kind l.kind && (not g.withering && same_name g.name l.name)) l.topo.topology.geoms

abbrev pub decreases-loop-id : goal.decreases-loop-id
decreases-loop-id l = l.topo.topology.next_geom - l.from
