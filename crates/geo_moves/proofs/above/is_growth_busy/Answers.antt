use Rattle.std.proofs.Common.{List, ℕ, ap, ◌∙◌}
use Rattle.geo_moves.specs.Above.{has_number}
use Rattle.geo_moves.proofs.above.is_growth_busy.Goals as goal

-- what was gathered is all that is reached upwards from the provider
pub returns : goal.returns
returns c = λ actors log.
    c.is_busy.ensures c.args.prov
    (λ p. ap (λ (xs : List ℕ). has_number xs p) c.deref.ensures.value ∙ c.in_ok-above.ensures p) actors log
