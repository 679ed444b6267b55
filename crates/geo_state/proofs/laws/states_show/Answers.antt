use Rattle.geo_state.proofs.ViewLemmas.{states_show}
use Rattle.geo_state.proofs.laws.states_show.Goals as goal

pub returns : goal.returns
returns c = states_show
