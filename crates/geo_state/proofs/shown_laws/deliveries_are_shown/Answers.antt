use Rattle.geo_state.proofs.StepLemmas.{deliveries_are_shown}
use Rattle.geo_state.proofs.shown_laws.deliveries_are_shown.Goals as goal

pub returns : goal.returns
returns c = deliveries_are_shown
