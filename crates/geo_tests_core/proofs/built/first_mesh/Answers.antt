use Rattle.geo_tests_core.proofs.Building.{first_built}
use Rattle.geo_tests_core.proofs.built.first_mesh.Goals as goal

pub returns : goal.returns
returns g c = first_built c.in_ok-new.field-0 c.args.dev c.args.taste c.in_ok-new.ensures
