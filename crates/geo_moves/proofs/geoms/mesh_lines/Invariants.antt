-- The lines so far, with those of the geoms that are left, are all lines.
use Rattle.std.proofs.Common.{◌≡◌, ◌-◌, ◌++◌}
use Rattle.std.specs.Prelude.{map, filter}
use Rattle.geo_access.specs.Access.{granted_by}
use Rattle.geo_moves.specs.Lines.{geom_line, geoms_from, is_listed, mesh_lines}
use Rattle.geo_moves.proofs.geoms.mesh_lines.Given as goal

abbrev pub invariant-loop-geom : goal.invariant-loop-geom
invariant-loop-geom l =
    l.lines
    ++ map (geom_line (granted_by l.topo) l.topo.topology) (filter is_listed (geoms_from l.topo.topology l.from))
    ≡ mesh_lines (granted_by l.topo) l.topo.topology

abbrev pub decreases-loop-geom : goal.decreases-loop-geom
decreases-loop-geom l = l.topo.topology.next_geom - l.from
