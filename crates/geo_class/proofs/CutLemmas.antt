-- A cut, stretch by stretch.
use Rattle.std.proofs.Common.{◌≡◌, ℕ, List, [], ◌∷◌, ◌++◌, Option, Some, None, ap, ◌∙◌, append_assoc}
use Rattle.std.proofs.lemmas.List.{append-nil}
use Rattle.std.specs.List.{cons_option}
use Rattle.std.specs.Option.{option_to_list}
use Rattle.geo_model.specs.declared.span.Piece.{Piece}
use Rattle.geo_model.specs.declared.span.Stretch.{Stretch}
use Rattle.geo_model.specs.Place.{piece_in, cut}

append-cons_option : {A : Type 0} (x : Option A) (before after : List A)
    → (before ++ option_to_list x) ++ after ≡ before ++ cons_option x after
append-cons_option None before after = ap (λ xs. xs ++ after) (append-nil before)
append-cons_option (Some x) before after = append_assoc before (x ∷ []) after

-- pieces with the part of one more stretch behind them
pub cut_more : (o len : ℕ) (s : Stretch) (rest : List Stretch) (before now whole : List Piece)
    → now ≡ before ++ option_to_list (piece_in o len s)
    → before ++ cut o len (s ∷ rest) ≡ whole
    → now ++ cut o len rest ≡ whole
cut_more o len s rest before now whole added so_far =
    ap (λ xs. xs ++ cut o len rest) added ∙ append-cons_option (piece_in o len s) before (cut o len rest) ∙ so_far
