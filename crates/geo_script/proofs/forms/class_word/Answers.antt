use Rattle.std.proofs.Common.{sym, ◌∙◌, ap}
use Rattle.geo_model.specs.declared.command.Cause.TheVariants as causes
use Rattle.geo_model.specs.ScriptWords.{found_or}
use Rattle.geo_script.proofs.WordsLemmas.{class_word-next}
use Rattle.geo_script.proofs.forms.class_word.Goals as goal

-- Either way: the word that was read is the first, and whether it names a class decides
pub returns-in-Some : goal.returns-in-Some
returns-in-Some c =
    sym (class_word-next c.args.words c.in_ok-word.word.now c.in_ok-word.words c.in_ok-word.ensures
    ∙ ap (found_or causes.Word c.in_ok-word.words) (sym c.in-Some.ensures))

pub returns-in-None : goal.returns-in-None
returns-in-None c =
    sym (class_word-next c.args.words c.in_ok-word.word.now c.in_ok-word.words c.in_ok-word.ensures
    ∙ ap (found_or causes.Word c.in_ok-word.words) (sym c.in-None.ensures))
