use Rattle.std.proofs.Common.{◌∙◌, ap, map, refl}
use Rattle.geo_bio.specs.Rows.{as_bio}
use Rattle.geo_mesh.specs.Cells.{provider_seen}
use Rattle.geo_class.specs.Targets.{consumers_for}
use Rattle.geo_class.proofs.TargetLemmas.{pieces_go_through}
use Rattle.geo_moves.specs.Ways.{through}
use Rattle.geo_moves.proofs.Ways.{cut_of}
use Rattle.geo_moves.proofs.cut.cut_range.Goals as goal

-- a consumer fills the place of each piece, so the pieces with their consumers' providers are the model's
pub returns : goal.returns
returns c =
    let p = provider_seen c.args.bio.now.to c.args.prov.now in
    let pieces = c.in_ok-pieces.ensures p refl refl in
    cut_of c.args.topo.now.topology _ _ _ _
    (pieces_go_through c.args.config.now p (as_bio 0 c.args.bio.now) c.requires.moves
    (c.requires.cut c.requires.moves).filled)
    pieces
    (c.in_ok-targets.ensures
    ∙ ap (map (through c.args.topo.now.topology))
    (c.as_slice.ensures ∙ c.in_ok-consumers.ensures
    ∙ ap (consumers_for c.args.config.now) (c.items.ensures ∙ pieces)))
