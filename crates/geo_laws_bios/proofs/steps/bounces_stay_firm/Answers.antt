use Rattle.geo_laws_bios.proofs.Turned.{bounces_stay_firm}
use Rattle.geo_laws_bios.proofs.steps.bounces_stay_firm.Goals as goal

pub returns : goal.returns
returns c = bounces_stay_firm
