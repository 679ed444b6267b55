use Rattle.std.proofs.Common.{rules, length, ◌==◌, List, ℕ}
use borrow.Author.Tests.{tests}
use Rattle.std.proofs.lemmas.Iterator.Search.{any_from_yields_List}
use Rattle.std.proofs.lemmas.Iterator.Splits.{YieldsList-from_slice_split}
use Rattle.geo_script.proofs.line.has_empty_word.Goals as goal

-- what the split gives are the words, and each is tested in turn
pub returns : goal.returns
returns c = any_from_yields_List (λ (word : List ℕ). length word == 0) _ _ _ c.any.ensures.ran
    (YieldsList-from_slice_split _ _ c.args.line.now c.split.ensures.rest c.split.ensures.done
    c.split.ensures.closure (λ x r q k. search (rules, tests))) (λ x b q k. search (rules, tests))
