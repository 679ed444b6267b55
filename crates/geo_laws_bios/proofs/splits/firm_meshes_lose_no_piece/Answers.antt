use Rattle.geo_laws_bios.proofs.Pieces.{firm_meshes_lose_no_piece}
use Rattle.geo_laws_bios.proofs.splits.firm_meshes_lose_no_piece.Goals as goal

pub returns : goal.returns
returns c = firm_meshes_lose_no_piece
