use Rattle.geo_taste.proofs.Firm.{firm_meshes_accept}
use Rattle.geo_taste.proofs.making_laws.firm_meshes_accept.Goals as goal

pub returns : goal.returns
returns c = firm_meshes_accept
