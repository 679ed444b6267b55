use Rattle.geo_state.proofs.OpeningLemmas.{holds-roomy}
use Rattle.geo_state.proofs.opening.reserve_events.Goals as goal

pub returns-clause-kept : goal.returns-clause-kept
returns-clause-kept c = holds-roomy c.args.state.now c.reserve.new.self c.reserve.ensures.room_stays c.requires.kept
