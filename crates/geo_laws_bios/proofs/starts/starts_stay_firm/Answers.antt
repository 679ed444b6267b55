use Rattle.geo_laws_bios.proofs.BioSteps.{starts_stay_firm}
use Rattle.geo_laws_bios.proofs.starts.starts_stay_firm.Goals as goal

pub returns : goal.returns
returns c = starts_stay_firm
