use Rattle.geomnbd.proofs.Ending.{is_over, it_halts}
use Rattle.geomnbd.proofs.serve_offer.Goals as goal

pub returns-in-Ok : goal.returns-in-Ok
returns-in-Ok g c = is_over c.in-Ok.ensures

pub returns : goal.returns
returns g c = it_halts c.in-Err.ensures
