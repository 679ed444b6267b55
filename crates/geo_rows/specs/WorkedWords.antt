-- Words that the program accepts for nothing.
use Rattle.std.specs.Prelude.{List, [], ◌∷◌, ℕ, codes}
use Rattle.geo_headline.specs.Modes.{Mode, Accepts}

-- the words ask for nothing
abbrev pub AskNothing : List (List ℕ) → Type 0
AskNothing words = (mode : Mode) → Accepts words mode → ⊥

-- the words of `gen` with these numbers
abbrev pub gen_words : List ℕ → List ℕ → List (List ℕ)
gen_words start count = codes "gen" ∷ start ∷ count ∷ []
