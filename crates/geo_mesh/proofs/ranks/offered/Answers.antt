use Rattle.std.proofs.Common.{ap, refl, Some, ◌∙◌}
use Rattle.geo_family.specs.Family.{first_child}
use Rattle.geo_mesh.specs.Cells.{provider_row}
use Rattle.geo_mesh.specs.Ranks.{owner_of, offers, is_offered}
use Rattle.geo_mesh.proofs.RankRows.{rising-with, first-with, first-is}
use Rattle.geo_mesh.proofs.IndexLemmas.{first-kin}
use Rattle.geo_mesh.proofs.ranks.offered.Goals as goal

-- the index has each provider under its geom, in the order of the rows, so the first child is the first row
pub returns : goal.returns
returns c =
    first-is (is_offered c.args.geom) c.args.from _ (offers c.args.edges.now)
    (rising-with owner_of 1 c.args.edges.now.providers.next c.args.edges.now.providers.rows
    c.requires.providers_rise) c.requires.providers_few
    (c.first_from.ensures
    ∙ ap (λ rows. first_child rows c.args.geom c.args.from) c.requires.offered
    ∙ first-kin provider_row (λ x. (x.number, Some x.geom)) (λ x. Some x.provider.geom) (λ row. refl)
    (λ x. is_offered c.args.geom (owner_of x)) c.args.geom c.args.from (λ x. refl) c.args.edges.now.providers.rows
    ∙ first-with owner_of (is_offered c.args.geom) c.args.from c.args.edges.now.providers.rows)
