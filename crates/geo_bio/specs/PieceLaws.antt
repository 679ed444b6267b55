-- What the table does by pieces and targets is what the mesh's definitions do.
use Rattle.std.specs.Prelude.{◌≡◌, ℕ, List, map, unwrap_or}
use Rattle.geo_model.specs.Topology.{Topology, provider_of_consumer}
use Rattle.geo_model.specs.World.{Config, BioOf}
use Rattle.geo_model.specs.Bios.{PieceTarget, piece_children}
use Rattle.geo_bio.specs.declared.bio.Held.{Held}
use Rattle.geo_bio.specs.Split.{split_into}

-- the consumer of a piece and the provider to which it is attached; the zero stands for a consumer that isn't attached
abbrev pub target_in : Topology Config → PieceTarget → ℕ × ℕ
target_in t z = (z.consumer, unwrap_or (provider_of_consumer t z.consumer) 0)

-- a bio that is split by pieces, each with the provider to which its consumer is attached, has the children of these
-- pieces
abbrev pub ChildrenAreOfPieces : Type 0
ChildrenAreOfPieces =
    (t : Topology Config) (first : ℕ) (x : BioOf Held) (zs : List PieceTarget)
    → split_into first x 0 (map (λ z. z.piece) zs) (map (target_in t) zs) ≡ piece_children t first x zs
