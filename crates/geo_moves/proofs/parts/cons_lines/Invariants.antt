-- The lines so far, with those of the consumers that are left, are all lines.
use Rattle.std.proofs.Common.{◌≡◌, ◌-◌, ◌++◌}
use Rattle.std.specs.Prelude.{map}
use Rattle.geo_model.specs.Topology.{consumers_of}
use Rattle.geo_laws_graph.specs.LookupLaws.{left_from}
use Rattle.geo_access.specs.Access.{granted_by}
use Rattle.geo_moves.specs.Lines.{cons_line, cons_lines}
use Rattle.geo_moves.proofs.parts.cons_lines.Given as goal

abbrev pub invariant-loop-id : goal.invariant-loop-id
invariant-loop-id l =
    l.lines
    ++ map (cons_line (granted_by l.topo) l.topo.topology)
    (left_from (λ y. y.number) l.from (consumers_of l.topo.topology l.geom))
    ≡ cons_lines (granted_by l.topo) l.topo.topology l.geom

abbrev pub decreases-loop-id : goal.decreases-loop-id
decreases-loop-id l = l.topo.topology.next_consumer - l.from
