use Rattle.geo_script.proofs.WordsLemmas.{short_name-refused}
use Rattle.geo_script.proofs.words.short_name.Goals as goal

pub returns-in_default : goal.returns-in_default
returns-in_default c =
    short_name-refused c.args.words c.in_ok-word.word.now c.in_ok-word.words c.in_ok-word.ensures c.in_default.ensures
