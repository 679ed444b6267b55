use Rattle.geo_laws_bios.proofs.Turned.{fails_stay_firm}
use Rattle.geo_laws_bios.proofs.steps.fails_stay_firm.Goals as goal

pub returns : goal.returns
returns c = fails_stay_firm
