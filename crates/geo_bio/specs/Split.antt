-- The children into which a bio is split.
use Rattle.std.specs.Prelude.{ℕ, ◌+◌, List, [], ◌∷◌, take, drop, None}
use Rattle.geo_model.specs.declared.span.Piece.{Piece}
use Rattle.geo_model.specs.declared.step.Owner.TheVariants as owners
use Rattle.geo_model.specs.declared.step.Phase.TheVariants as phases
use Rattle.geo_model.specs.World.{BioOf}
use Rattle.geo_model.specs.Bios.{new_bio}
use Rattle.geo_slots.specs.Slots.{SlotsView, with_insert}
use Rattle.geo_bio.specs.declared.bio.Bio.{Bio}
use Rattle.geo_bio.specs.declared.bio.Held.{Held}

-- the child of a bio for a piece, with the bytes of its piece
abbrev pub child_for : ℕ → Bio → ℕ → Piece → ℕ × ℕ → Bio
child_for parent x index piece target = record {
  cmd = x.cmd;
  span = piece.span;
  bytes = take piece.span.len (drop piece.at x.bytes);
  «from» = target.0;
  to = target.1;
  owner = owners.Child parent index;
  phase = phases.Down;
  children = 0;
  finished = 0;
  first_child = 0;
  held = None;
}

-- the children of a bio for its pieces, in piece order
abbrev pub children_for : ℕ → Bio → ℕ → List Piece → List (ℕ × ℕ) → List Bio
children_for parent x index [] targets = []
children_for parent x index (piece ∷ pieces) [] = []
children_for parent x index (piece ∷ pieces) (target ∷ targets) =
    child_for parent x index piece target ∷ children_for parent x (index + 1) pieces targets

-- the bio that waits for so many children
abbrev pub waiting : ℕ → ℕ → Bio → Bio
waiting children first x = record x { phase = phases.Waiting; children = children; finished = 0; first_child = first }

-- values under numbers that follow each other
abbrev pub numbered : {T : Type 0} → ℕ → List T → List (ℕ × T)
numbered n [] = []
numbered n (x ∷ xs) = (n, x) ∷ numbered (n + 1) xs

-- the table with values under the next numbers
abbrev pub with_all : {T : Type 0} → SlotsView T → List T → SlotsView T
with_all s [] = s
with_all s (x ∷ xs) = with_all (with_insert s x) xs

-- the children as contracts see them: one for each piece and its target, with the numbers that follow each other
abbrev pub split_into : ℕ → BioOf Held → ℕ → List Piece → List (ℕ × ℕ) → List (BioOf Held)
split_into first x index [] targets = []
split_into first x index (piece ∷ pieces) [] = []
split_into first x index (piece ∷ pieces) (target ∷ targets) =
    new_bio (first + index) x.cmd piece.span.offset piece.span.len (take piece.span.len (drop piece.at x.bytes))
    target.0 target.1 (owners.Child x.number index)
    ∷ split_into first x (index + 1) pieces targets
