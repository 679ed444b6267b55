use Rattle.std.proofs.Common.{sym, ◌∙◌}
use Rattle.geo_script.proofs.TextLemmas.{lines-at, lines-none}
use Rattle.geo_script.proofs.text.first_line.Goals as goal

pub returns-in-Some-clause-lines : goal.returns-in-Some-clause-lines
returns-in-Some-clause-lines c = lines-at c.args.text.now c.in-Some.at (sym c.find_byte.ensures.place ∙ c.in-Some.is)

pub returns-in-None-clause-lines : goal.returns-in-None-clause-lines
returns-in-None-clause-lines c = lines-none c.args.text.now c.requires (sym c.find_byte.ensures.place ∙ c.in-None.is)
