use Rattle.geo_laws_traces.proofs.Told.{read_fits}
use Rattle.geo_laws_traces.proofs.what_is_read_fits.Goals as goal

pub returns : goal.returns
returns c = read_fits
