-- The pieces of a bio with their consumers are what `split` and `flush` give, with what `consumers` gives for them.
use Rattle.std.specs.Prelude.{◌≡◌, ℕ, true, false, List, map, flat_map, IsSome}
use Rattle.std.specs.List.{AllByRecursion}
use Rattle.std.specs.Option.{option_to_list}
use Rattle.geo_model.specs.declared.span.Piece.{Piece}
use Rattle.geo_model.specs.Bios.{PieceTarget, empty_piece, piece_targets}
use Rattle.geo_model.specs.Place.{component, components, pieces}
use Rattle.geo_model.specs.Topology.{Provider}
use Rattle.geo_model.specs.Words.{is_flush}
use Rattle.geo_model.specs.World.{BioOf, Config}

-- the consumers of pieces, as far as they have any
abbrev pub consumers_for : Config → List Piece → List ℕ
consumers_for config list = flat_map (λ s. option_to_list (component config s.child)) list

-- so many consumers and pieces as targets
pub record AreTargets (targets : List PieceTarget) (ways : List ℕ) (list : List Piece) : Type 0 where
  pub consumers : map (λ x. x.consumer) targets ≡ ways
  pub pieces : map (λ x. x.piece) targets ≡ list

-- a FLUSH goes through each component once
abbrev pub FlushesGoThrough : Type 0 → Type 0
FlushesGoThrough R =
    (config : Config) (p : Provider) (x : BioOf R) → is_flush x.cmd ≡ true
    → AreTargets (piece_targets config p x) (components config) (map (λ c. empty_piece) (components config))

-- another bio goes through the consumers of its pieces, where each has one
abbrev pub PiecesGoThrough : Type 0 → Type 0
PiecesGoThrough R =
    (config : Config) (p : Provider) (x : BioOf R) → is_flush x.cmd ≡ false
    → AllByRecursion (λ s. IsSome (component config s.child)) (pieces config p x.offset x.len)
    → AreTargets (piece_targets config p x)
    (consumers_for config (pieces config p x.offset x.len)) (pieces config p x.offset x.len)
