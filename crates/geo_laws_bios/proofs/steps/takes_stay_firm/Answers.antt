use Rattle.geo_laws_bios.proofs.Turned.{takes_stay_firm}
use Rattle.geo_laws_bios.proofs.steps.takes_stay_firm.Goals as goal

pub returns : goal.returns
returns c = takes_stay_firm
