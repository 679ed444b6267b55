use Rattle.std.proofs.Common.{sym, ◌∙◌, ap, ◌∷◌, take}
use Rattle.geo_script.proofs.WordsLemmas.{split_at, split_none, behind}
use Rattle.geo_headline.specs.Traces.{parts_of}
use Rattle.geo_verify.proofs.cut.ended_line.Goals as goal

-- the text is parted at its first line feed
pub returns-in-Some-clause-parts : goal.returns-in-Some-clause-parts
returns-in-Some-clause-parts c =
    split_at 10 c.args.text.now c.in-Some.at (sym c.find_byte.ensures.place ∙ c.in-Some.is)
    ∙ ap (λ l. take c.in-Some.at c.args.text.now ∷ parts_of l) (sym (behind c.in-Some.at c.args.text.now))

pub returns-in-None-clause-parts : goal.returns-in-None-clause-parts
returns-in-None-clause-parts c =
    split_none 10 c.args.text.now (sym c.find_byte.ensures.place ∙ c.in-None.is)
