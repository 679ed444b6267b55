use Rattle.geo_moves.proofs.Walking.{listing_of}
use Rattle.geo_moves.proofs.geoms.listing.Goals as goal

pub returns : goal.returns
returns c = listing_of c.args.state.now c.requires.stands.kept c.mesh_lines.result c.mesh_lines.ensures
