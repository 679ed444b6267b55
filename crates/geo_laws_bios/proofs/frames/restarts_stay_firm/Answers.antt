use Rattle.geo_laws_bios.proofs.Restarted.{restarts_stay_firm}
use Rattle.geo_laws_bios.proofs.frames.restarts_stay_firm.Goals as goal

pub returns : goal.returns
returns c = restarts_stay_firm
