use Rattle.std.proofs.Common.{ap, refl, Some, ◌∙◌}
use Rattle.geo_family.specs.Family.{first_child}
use Rattle.geo_mesh.specs.Cells.{consumer_row}
use Rattle.geo_mesh.specs.Ranks.{links_of, links, belongs}
use Rattle.geo_mesh.proofs.RankRows.{rising-with, first-with, first-is}
use Rattle.geo_mesh.proofs.IndexLemmas.{first-kin}
use Rattle.geo_mesh.proofs.ranks.belonging.Goals as goal

-- the index has each consumer under its geom, in the order of the rows, so the first child is the first row
pub returns : goal.returns
returns c =
    first-is (belongs c.args.geom) c.args.from _ (links c.args.edges.now)
    (rising-with links_of 1 c.args.edges.now.consumers.next c.args.edges.now.consumers.rows
    c.requires.consumers_rise) c.requires.consumers_few
    (c.first_from.ensures
    ∙ ap (λ rows. first_child rows c.args.geom c.args.from) c.requires.owned
    ∙ first-kin consumer_row (λ x. (x.number, Some x.geom)) (λ x. Some x.consumer.geom) (λ row. refl)
    (λ x. belongs c.args.geom (links_of x)) c.args.geom c.args.from (λ x. refl) c.args.edges.now.consumers.rows
    ∙ first-with links_of (belongs c.args.geom) c.args.from c.args.edges.now.consumers.rows)
