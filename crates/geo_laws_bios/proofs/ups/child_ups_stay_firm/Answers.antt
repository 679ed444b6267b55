use Rattle.geo_laws_bios.proofs.Ascending.{child_ups_stay_firm}
use Rattle.geo_laws_bios.proofs.ups.child_ups_stay_firm.Goals as goal

pub returns : goal.returns
returns c = child_ups_stay_firm
