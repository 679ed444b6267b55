-- The words are one word, and it is this one.
use Rattle.geo_run.proofs.Digits.{is_word}
use Rattle.geo_run.proofs.words.is_only.Goals as goal

pub returns-in-len1 : goal.returns-in-len1
returns-in-len1 c =
    is_word c.args.words.now c.word-item.result c.as_str.result.now c.args.only.now c.eq.result c.in-len1.len_at_least
    c.in-len1.len_below c.word-item.is c.as_str.ensures.value c.eq.ensures
