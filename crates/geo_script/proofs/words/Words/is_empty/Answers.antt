use Rattle.std.proofs.Common.{◌==◌, length, ◌∙◌, ap}
use Rattle.geo_script.proofs.WordsLemmas.{none-left, from_not}
use Rattle.geo_script.proofs.words.Words.is_empty.Goals as goal

pub returns : goal.returns
returns c = from_not _ _ c.is_none.ensures ∙ none-left c.self.inside.rest ∙ ap (λ ws. length ws == 0) c.self.view_is
