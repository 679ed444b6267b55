use Rattle.std.proofs.Common.{sym, ◌∙◌, ap}
use Rattle.geo_model.specs.Script.{runs_words}
use Rattle.geo_script.specs.WordsLeft.{words_left}
use Rattle.geo_script.proofs.FormLemmas.{runs_words-some, runs_words-none}
use Rattle.geo_script.proofs.words.runs.Goals as goal

-- the rest of the line is a text of runs, which stands for these bytes alone
pub returns-in-Ok : goal.returns-in-Ok
returns-in-Ok c =
    rw (c.share.ensures ∙ c.from_block.ensures)
    (ap runs_words (sym c.words.view_is ∙ ap words_left c.in-Some.is)
    ∙ runs_words-some c.in-Some.text.now c.in-Ok.bytes c.in-Ok.ensures)

-- the rest of the line isn't a text of runs, of whatever bytes
pub returns-in-Err-At : goal.returns-in-Err-At
returns-in-Err-At c =
    let fault = rw c.in-Err-At.field-0-is at c.in-Err-At.ensures in
    ap runs_words (sym c.words.view_is ∙ ap words_left c.in-Some.is) ∙ runs_words-none c.in-Some.text.now fault.not_runs
