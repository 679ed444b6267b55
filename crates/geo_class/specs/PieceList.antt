-- A list of pieces, as contracts see it.
use Rattle.std.specs.Prelude.{ℕ, List}
use Rattle.geo_model.specs.declared.span.Piece.{Piece}

-- the pieces, and for how many more there is room
pub record PieceListView : Type 0 where
  pub items : List Piece
  pub spare : ℕ
