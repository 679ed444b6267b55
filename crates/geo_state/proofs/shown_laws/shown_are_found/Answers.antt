use Rattle.geo_state.proofs.ShownLemmas.{shown_are_found}
use Rattle.geo_state.proofs.shown_laws.shown_are_found.Goals as goal

pub returns : goal.returns
returns c = shown_are_found
