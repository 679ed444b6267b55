-- The children of a split are those of its pieces.
use Rattle.std.specs.Prelude.{◌≡◌, ℕ, ◌+◌, List, [], ◌∷◌, map}
use Rattle.std.specs.List.{enumerate_from}
use Rattle.std.proofs.Common.{refl, ap}
use Rattle.geo_model.specs.Topology.{Topology}
use Rattle.geo_model.specs.World.{Config, BioOf}
use Rattle.geo_model.specs.Bios.{PieceTarget, piece_child}
use Rattle.geo_bio.specs.declared.bio.Held.{Held}
use Rattle.geo_bio.specs.Split.{split_into}
use Rattle.geo_bio.specs.PieceLaws.{target_in, ChildrenAreOfPieces}

-- from any piece on
from_piece : (t : Topology Config) (first : ℕ) (x : BioOf Held) (k : ℕ) (zs : List PieceTarget)
    → split_into first x k (map (λ z. z.piece) zs) (map (target_in t) zs)
    ≡ map (λ item. piece_child t first x item.0 item.1) (enumerate_from k zs)
from_piece t first x k [] = refl
from_piece t first x k (z ∷ zs) = ap (λ ys. piece_child t first x k z ∷ ys) (from_piece t first x (k + 1) zs)

-- the children of a split are those of its pieces
pub children_are_of_pieces : ChildrenAreOfPieces
children_are_of_pieces t first x zs = from_piece t first x 0 zs
