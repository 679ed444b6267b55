-- The words of a line behind its mark, and the place of the first mark.
use Rattle.std.proofs.Common.{◌≡◌, ℕ, List, [], ◌∷◌, Ok, codes, rules}
use Rattle.geo_model.specs.Script.{Words, words_of, next_word, by_word}
use Rattle.geo_headline.specs.Traces.{size_words, size_of_line}

-- the words behind the first of a line are read as the line
pub read_size : (sector : ℕ) (line word : List ℕ) (words : Words) → next_word (words_of line) ≡ Ok (word, words)
    → by_word ((codes "%", by_word ((codes "disk", size_words sector) ∷ [])) ∷ []) (word ∷ words)
    ≡ size_of_line sector line
read_size sector line word words next = search rules
