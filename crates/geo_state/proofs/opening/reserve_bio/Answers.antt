use Rattle.geo_state.proofs.OpeningLemmas.{holds-spare}
use Rattle.geo_state.proofs.opening.reserve_bio.Goals as goal

pub returns-clause-kept : goal.returns-clause-kept
returns-clause-kept c = holds-spare c.args.state.now c.reserve.new.self c.reserve.ensures.bios_stay c.requires.kept
