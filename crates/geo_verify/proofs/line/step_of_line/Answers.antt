use Rattle.std.proofs.Common.{List, ℕ, sym, subst, ◌∷◌, [], codes}
use Rattle.geo_model.specs.Script.{by_word, words_of}
use Rattle.geo_script.specs.Reads.{Reads}
use Rattle.geo_script.proofs.WordsLemmas.{next_word-cons}
use Rattle.geo_headline.specs.Traces.{seat_and_step}
use Rattle.geo_verify.proofs.line.step_of_line.Goals as goal

-- the line's words begin with the one that was read, and that decides
pub returns : goal.returns
returns c =
    let cons =
    next_word-cons (words_of c.args.line.now) c.in_ok-word.word.now c.in_ok-word.words
    (rw c.of.ensures at c.in_ok-word.ensures) in
    let P : List (List ℕ) → Type 0 = λ ws. Reads c.step_behind.result (by_word ((codes "%", seat_and_step) ∷ []) ws) in
    subst P (sym cons) c.step_behind.ensures
