use Rattle.geo_laws_bios.proofs.BioSteps.{ups_stay_firm}
use Rattle.geo_laws_bios.proofs.ups.ups_stay_firm.Goals as goal

pub returns : goal.returns
returns c = ups_stay_firm
