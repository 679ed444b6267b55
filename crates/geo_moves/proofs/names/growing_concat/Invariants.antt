-- The first that can grow of those that are left is the first of all.
use Rattle.std.proofs.Common.{◌≡◌, ◌-◌, find}
use Rattle.geo_base.specs.declared.kind.Kind.TheVariants as kinds
use Rattle.geo_model.specs.Append.{is_growing}
use Rattle.geo_moves.specs.Names.{can_grow, named_from}
use Rattle.geo_moves.proofs.names.growing_concat.Given as goal

abbrev pub invariant-loop-geom : goal.invariant-loop-geom
invariant-loop-geom l =
    find (can_grow l.topo.topology) (named_from l.topo.topology kinds.Concat l.name l.from)
    ≡ find (is_growing l.topo.topology l.name) l.topo.topology.geoms

abbrev pub decreases-loop-geom : goal.decreases-loop-geom
decreases-loop-geom l = l.topo.topology.next_geom - l.from
