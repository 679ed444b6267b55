use Rattle.geo_state.proofs.LawLemmas.{holds_after_effects}
use Rattle.geo_state.proofs.laws.holds_after_effects.Goals as goal

pub returns : goal.returns
returns c = holds_after_effects
