-- The lines so far, with those of the providers that are left, are all lines.
use Rattle.std.proofs.Common.{◌≡◌, ◌-◌, ◌++◌}
use Rattle.std.specs.Prelude.{map}
use Rattle.geo_model.specs.Topology.{providers_of}
use Rattle.geo_laws_graph.specs.LookupLaws.{left_from}
use Rattle.geo_access.specs.Access.{granted_by}
use Rattle.geo_moves.specs.Lines.{prov_line, prov_lines}
use Rattle.geo_moves.proofs.parts.prov_lines.Given as goal

abbrev pub invariant-loop-id : goal.invariant-loop-id
invariant-loop-id l =
    l.lines
    ++ map (prov_line (granted_by l.topo) l.topo.topology)
    (left_from (λ y. y.number) l.from (providers_of l.topo.topology l.geom))
    ≡ prov_lines (granted_by l.topo) l.topo.topology l.geom

abbrev pub decreases-loop-id : goal.decreases-loop-id
decreases-loop-id l = l.topo.topology.next_provider - l.from
