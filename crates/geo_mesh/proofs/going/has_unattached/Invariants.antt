use Rattle.std.proofs.Common.{◌≡◌, ◌-◌}
use Rattle.std.specs.List.{list_any}
use Rattle.geo_model.specs.Topology.{Provider, providers_of}
use Rattle.geo_laws_graph.specs.LookupLaws.{left_from}
use Rattle.geo_mesh.specs.Cells.{graph, topo_view}
use Rattle.geo_mesh.specs.Going.{is_unattached}
use Rattle.geo_mesh.proofs.going.has_unattached.Given as goal

-- none before `from` is unattached: whether any provider is, those that are left tell
abbrev pub invariant-loop-prov : goal.invariant-loop-prov
invariant-loop-prov g l =
    list_any (λ (p : Provider). is_unattached (topo_view l.tables) p.number)
    (left_from (λ (p : Provider). p.number) l.from (providers_of (graph l.tables) l.geom))
    ≡ list_any (λ (p : Provider). is_unattached (topo_view l.tables) p.number) (providers_of (graph l.tables) l.geom)

abbrev pub decreases-loop-prov : goal.decreases-loop-prov
decreases-loop-prov g l = l.tables.edges.providers.next - l.from
