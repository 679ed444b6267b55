use Rattle.std.proofs.lemmas.List.Sorted.{IsPermutation-map}
use Rattle.geo_elev.proofs.front.add_to.Goals as goal

pub returns-in-Ok-clause-more : goal.returns-in-Ok-clause-more
returns-in-Ok-clause-more c = IsPermutation-map (λ r. r.0) _ _ c.in-Ok.ensures.permutation
