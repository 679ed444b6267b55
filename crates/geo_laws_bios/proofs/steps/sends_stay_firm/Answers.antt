use Rattle.geo_laws_bios.proofs.Turned.{sends_stay_firm}
use Rattle.geo_laws_bios.proofs.steps.sends_stay_firm.Goals as goal

pub returns : goal.returns
returns c = sends_stay_firm
