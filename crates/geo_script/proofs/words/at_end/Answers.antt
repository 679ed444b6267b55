use Rattle.std.proofs.Common.{sym, ◌∙◌, ap}
use Rattle.geo_model.specs.ScriptWords.{at_end}
use Rattle.geo_script.specs.WordsLeft.{words_left}
use Rattle.geo_script.proofs.WordsLemmas.{at_end-words}
use Rattle.geo_script.proofs.words.at_end.Goals as goal

-- what is left of a line has a word, so one is left over
pub returns-in-Some : goal.returns-in-Some
returns-in-Some g c =
    sym (at_end-words c.args.value c.in-Some.field-0.now)
    ∙ ap (at_end c.args.value) (ap words_left (sym c.in-Some.is) ∙ c.words.view_is)
