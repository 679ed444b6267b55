use Rattle.std.proofs.Common.{◌≡◌, ◌-◌}
use Rattle.std.specs.List.{list_any}
use Rattle.geo_model.specs.Topology.{Consumer, consumers_of}
use Rattle.geo_laws_graph.specs.LookupLaws.{left_from}
use Rattle.geo_mesh.specs.Cells.{graph, topo_view}
use Rattle.geo_mesh.specs.Going.{is_unused}
use Rattle.geo_mesh.proofs.going.has_unused.Given as goal

-- none before `from` is unused: whether any consumer is, those that are left tell
abbrev pub invariant-loop-cons : goal.invariant-loop-cons
invariant-loop-cons g l =
    list_any (λ (x : Consumer). is_unused (topo_view l.tables) x.number)
    (left_from (λ (x : Consumer). x.number) l.from (consumers_of (graph l.tables) l.geom))
    ≡ list_any (λ (x : Consumer). is_unused (topo_view l.tables) x.number) (consumers_of (graph l.tables) l.geom)

abbrev pub decreases-loop-cons : goal.decreases-loop-cons
decreases-loop-cons g l = l.tables.edges.consumers.next - l.from
