use Rattle.geo_laws_bios.proofs.BioSteps.{taste_ups_stay_firm}
use Rattle.geo_laws_bios.proofs.ups.taste_ups_stay_firm.Goals as goal

pub returns : goal.returns
returns c = taste_ups_stay_firm
