use Rattle.std.proofs.Common.{sym, ◌∙◌}
use Rattle.geo_script.proofs.FormLemmas.{mark_words-next}
use Rattle.geo_script.proofs.forms.mark.Goals as goal

-- handle and class are the first two words, and the model reads the others by the same class
pub returns : goal.returns
returns c =
    c.mark_by.ensures
    ∙ sym (mark_words-next c.args.words c.in_ok-handle.handle c.in_ok-handle.words c.in_ok-word.word.now
    c.in_ok-word.words (sym c.in_ok-handle.ensures) c.in_ok-word.ensures)
