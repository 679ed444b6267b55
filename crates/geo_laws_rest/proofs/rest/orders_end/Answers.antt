use Rattle.geo_laws_rest.proofs.Picking.{orders_end}
use Rattle.geo_laws_rest.proofs.rest.orders_end.Goals as goal

pub returns : goal.returns
returns c = orders_end
