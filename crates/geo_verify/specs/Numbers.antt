-- The numbers of lines.
use Rattle.std.specs.Prelude.{◌≡◌, ◌==◌, ℕ, List, [], ◌∷◌, Some, Bool, not, ◌&&◌, ◌||◌, nat_lt}
use Rattle.geo_model.specs.Script.{Words, number_of}

-- the first word is this number, and these are behind it
abbrev pub StartsWith : Words → ℕ → Words → Type 0
StartsWith words n rest = (word : List ℕ) × ((words ≡ word ∷ rest) × (number_of word ≡ Some n))

-- so many first bytes are one, or more of which the first isn't `0`
abbrev pub has_form : ℕ → List ℕ → Bool
has_form count [] = count == 1
has_form count (b ∷ bs) = (count == 1) || (nat_lt 1 count && not (b == 48))
