use Rattle.geo_laws_bios.proofs.Ascending.{line_ups_stay_firm}
use Rattle.geo_laws_bios.proofs.ups.line_ups_stay_firm.Goals as goal

pub returns : goal.returns
returns c = line_ups_stay_firm
