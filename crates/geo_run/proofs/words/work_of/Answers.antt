-- One word, or three.
use Rattle.std.proofs.Common.{List, ℕ, subst, sym}
use Rattle.geo_run.specs.Work.{AsksFor}
use Rattle.geo_run.proofs.Digits.{one_word, three_words}
use Rattle.geo_run.proofs.words.work_of.Goals as goal

-- Words of this many are those that were looked at, one by one
pub returns-in-len1 : goal.returns-in-len1
returns-in-len1 c =
    subst (λ (ws : List (List ℕ)). AsksFor ws c.work_by.result)
    (sym (one_word c.args.words.now c.word-item.result c.in-len1.len_at_least c.in-len1.len_below c.word-item.is))
    c.work_by.ensures

pub returns-in-len3 : goal.returns-in-len3
returns-in-len3 c =
    subst (λ (ws : List (List ℕ)). AsksFor ws c.generation_of.result)
    (sym
    (three_words c.args.words.now c.first-item.result c.start-item.result c.count-item.result c.in-len3.len_at_least
    c.in-len3.len_below c.first-item.is c.start-item.is c.count-item.is)) c.generation_of.ensures
