use Rattle.std.proofs.Common.{sym, ◌∙◌, ap, take, ◌∷◌}
use Rattle.geo_model.specs.Script.{words_of, next_word}
use Rattle.geo_script.specs.WordsLeft.{words_left}
use Rattle.geo_script.proofs.WordsLemmas.{split_at, split_none, behind}
use Rattle.geo_script.proofs.words.next_word.Goals as goal

-- the words are what stands before the first space, and the words behind it
pub returns-in-Some-find_byte : goal.returns-in-Some-find_byte
returns-in-Some-find_byte c =
    let line = c.in-Some.line.now in
    let at = c.in-Some-find_byte.at in
    ap next_word (sym c.words.view_is ∙ ap words_left c.in-Some.is
    ∙ split_at 32 line at (sym c.find_byte.ensures.place ∙ c.in-Some-find_byte.is)
    ∙ ap (λ l. take at line ∷ words_of l) (sym (behind at line)))

pub returns-in-None : goal.returns-in-None
returns-in-None c =
    ap next_word (sym c.words.view_is ∙ ap words_left c.in-Some.is
    ∙ split_none 32 c.in-Some.line.now (sym c.find_byte.ensures.place ∙ c.in-None.is))
