use Rattle.geo_laws_steps.proofs.KeptPieces.{no_piece_is_lost}
use Rattle.geo_laws_steps.proofs.all_steps.no_piece_is_lost.Goals as goal

pub returns : goal.returns
returns c = no_piece_is_lost
