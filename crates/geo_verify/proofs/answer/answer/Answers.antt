use Rattle.std.proofs.Common.{List, ℕ, sym, subst}
use Rattle.geo_model.specs.Script.{by_word}
use Rattle.geo_script.specs.Reads.{Reads}
use Rattle.geo_script.proofs.WordsLemmas.{next_word-cons}
use Rattle.geo_headline.specs.Traces.{answer_table}
use Rattle.geo_verify.proofs.answer.answer.Goals as goal

-- the words begin with the one that was read, and the table is looked up by that
pub returns : goal.returns
returns c =
    let cons = next_word-cons c.args.words c.in_ok-name.name.now c.in_ok-name.words c.in_ok-name.ensures in
    let P : List (List ℕ) → Type 0 = λ ws. Reads c.answer_by.result (by_word answer_table ws) in
    subst P (sym cons) c.answer_by.ensures
