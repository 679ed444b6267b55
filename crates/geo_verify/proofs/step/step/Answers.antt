use Rattle.std.proofs.Common.{List, ℕ, sym, subst}
use Rattle.geo_model.specs.Script.{by_word}
use Rattle.geo_script.specs.Reads.{Reads}
use Rattle.geo_script.proofs.WordsLemmas.{next_word-cons}
use Rattle.geo_headline.specs.Traces.{step_table}
use Rattle.geo_verify.proofs.step.step.Goals as goal

-- the words begin with the one that was read, and the table is looked up by that
pub returns : goal.returns
returns c =
    let cons = next_word-cons c.args.words c.in_ok-name.name.now c.in_ok-name.words c.in_ok-name.ensures in
    let P : List (List ℕ) → Type 0 = λ ws. Reads c.step_by.result (by_word step_table ws) in
    subst P (sym cons) c.step_by.ensures
