-- The word is `gen`.
use Rattle.geo_run.proofs.Digits.{asks_generation}
use Rattle.geo_run.proofs.words.generation_of.Goals as goal

pub returns-then-eq : goal.returns-then-eq
returns-then-eq c = asks_generation _ _ _ _ _ c.as_str.ensures.value c.if-eq.ensures c.generation.ensures
