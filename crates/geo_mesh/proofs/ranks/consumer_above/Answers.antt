use Rattle.std.proofs.Common.{ap, refl, ◌∙◌}
use Rattle.geo_family.specs.Family.{first_child}
use Rattle.geo_mesh.specs.Cells.{consumer_row}
use Rattle.geo_mesh.specs.Index.{unless_dev}
use Rattle.geo_mesh.specs.Ranks.{links_of, links, is_above}
use Rattle.geo_mesh.proofs.IndexLemmas.{names-above, first-kin}
use Rattle.geo_mesh.proofs.RankRows.{rising-with, first-with, first-is}
use Rattle.geo_mesh.proofs.ranks.consumer_above.Goals as goal

-- the index has all but DEV's consumers under their providers, in order, so the first child is the first row
pub returns : goal.returns
returns c =
    first-is (is_above c.args.prov) c.args.from _ (links c.args.edges.now)
    (rising-with links_of 1 c.args.edges.now.consumers.next c.args.edges.now.consumers.rows
    c.requires.consumers_rise) c.requires.consumers_few
    (c.first_from.ensures
    ∙ ap (λ rows. first_child rows c.args.prov c.args.from) c.requires.above
    ∙ first-kin consumer_row (λ x. (x.number, unless_dev x.geom x.provider))
    (λ x. unless_dev x.consumer.geom x.consumer.prov) (λ row. refl)
    (λ x. is_above c.args.prov (links_of x)) c.args.prov c.args.from
    (λ x. names-above x.consumer.geom x.consumer.prov c.args.prov) c.args.edges.now.consumers.rows
    ∙ first-with links_of (is_above c.args.prov) c.args.from c.args.edges.now.consumers.rows)
