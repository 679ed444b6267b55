-- Runs that are longer than one call of `search` computes.
use Rattle.std.proofs.Common.{refl}
use Rattle.geo_rows.proofs.Computed.{computed}
use Rattle.geo_rows.proofs.growth.grown_moments.Goals as goal

pub returns-clause-refusing_sound : goal.returns-clause-refusing_sound
unfolding computed
returns-clause-refusing_sound c = refl

pub returns-clause-too_long_chain_sound : goal.returns-clause-too_long_chain_sound
unfolding computed
returns-clause-too_long_chain_sound c = refl

pub returns-clause-long_chain_sound : goal.returns-clause-long_chain_sound
unfolding computed
returns-clause-long_chain_sound c = refl
