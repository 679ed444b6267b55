use Rattle.std.specs.Prelude.{option_map}
use Rattle.std.specs.Option.{option_copied}
use Rattle.std.proofs.Common.{ap, ◌∙◌}
use Rattle.geo_mesh.specs.Cells.{geom_seen}
use Rattle.geo_moves.proofs.Appending.{able-found, able-grows, all-longer}
use Rattle.geo_moves.proofs.appends.longer.Goals as goal

pub unreachable-requires : goal.unreachable-requires
unreachable-requires c =
    able-found c.args.state.now c.requires.firm c.args.growing.now c.args.below.now c.requires.able
    (c.geom.ensures.geom ∙ ap (λ o. option_map (geom_seen c.args.growing.now.geom) (option_copied o)) c.in_default.is)

-- it has fewer than 16 components, and its size with the new one is within the limit
pub with_place-requires : goal.with_place-requires
with_place-requires c =
    able-grows c.args.state.now c.requires.firm c.args.growing.now c.args.below.now c.requires.able
    (geom_seen c.args.growing.now.geom c.in-Some.geom.now)
    (c.geom.ensures.geom ∙ ap (λ o. option_map (geom_seen c.args.growing.now.geom) (option_copied o)) c.in-Some.is)

-- the geom that is found by its number is the concat that was found by its name
pub returns : goal.returns
returns c =
    all-longer c.args.state.now c.requires.firm c.args.growing.now c.args.below.now
    (geom_seen c.args.growing.now.geom c.in-Some.geom.now)
    (c.geom.ensures.geom ∙ ap (λ o. option_map (geom_seen c.args.growing.now.geom) (option_copied o)) c.in-Some.is)
    c.coming_consumer-consumer.result c.coming_consumer-consumer.ensures.number c.with_place.result
    c.with_place.ensures
