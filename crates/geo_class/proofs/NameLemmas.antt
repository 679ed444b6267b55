-- The last byte of a name.
use Rattle.std.proofs.Common.{slice_get, ◌≡◌, ℕ, ◌-◌, List, [], ◌∷◌, length, Option, Some, None, refl, ap, ◌∙◌, arith}
use Rattle.std.specs.List.{last_or}

-- the last item of a list that isn't empty stands at its greatest index
last-at : (before : Option ℕ) (x : ℕ) (xs : List ℕ) → last_or before (x ∷ xs) ≡ slice_get (x ∷ xs) (length xs)
last-at before x [] = refl
last-at before x (y ∷ ys) = last-at (Some x) y ys

-- the last byte, if there is one, stands at the greatest index
pub last_is : (bytes : List ℕ) → last_or None bytes ≡ slice_get bytes (length bytes - 1)
last_is [] = refl
last_is (x ∷ xs) =
    let at_end : length xs ≡ length (x ∷ xs) - 1 = omega arith in
    last-at None x xs ∙ ap (slice_get (x ∷ xs)) at_end
