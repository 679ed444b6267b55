use Rattle.geo_laws_bios.proofs.Serving.{sources_serve_all}
use Rattle.geo_laws_bios.proofs.ups.sources_serve_all.Goals as goal

pub returns : goal.returns
returns c = sources_serve_all
