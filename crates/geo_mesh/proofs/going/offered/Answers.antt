use Rattle.std.proofs.Common.{◌==◌, ◌∙◌}
use Rattle.geo_model.specs.Topology.{Provider, providers_of}
use Rattle.geo_laws_graph.specs.LookupLaws.{WalksMeetAll}
use Rattle.geo_laws_graph.proofs.Walks.{walks-meet}
use Rattle.geo_mesh.specs.Cells.{graph}
use Rattle.geo_mesh.proofs.IndexLemmas.{offered_first}
use Rattle.geo_mesh.proofs.GoingLemmas.{walk-next}
use Rattle.geo_mesh.proofs.going.offered.Goals as goal

-- the index gives the first of the geom's providers that is left; numbers rise, so the rest comes behind it
pub returns-clause-next : goal.returns-clause-next
returns-clause-next g c =
    walk-next (λ (x : Provider). x.number) (providers_of (graph c.args.tables.now) c.args.geom)
    c.args.tables.now.edges.providers.next c.args.from c.first_from.result
    (WalksMeetAll.part walks-meet (λ (x : Provider). x.number) (λ x. x.geom == c.args.geom)
    (graph c.args.tables.now).providers c.args.tables.now.edges.providers.next c.requires.orderly.order.providers)
    (c.first_from.ensures
    ∙ offered_first (graph c.args.tables.now) c.args.tables.now.edges.index c.requires.indexed c.args.geom c.args.from)
