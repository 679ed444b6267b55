use Rattle.geo_laws_bios.proofs.Turned.{delivers_stay_firm}
use Rattle.geo_laws_bios.proofs.steps.delivers_stay_firm.Goals as goal

pub returns : goal.returns
returns c = delivers_stay_firm
