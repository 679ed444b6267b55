use Rattle.std.proofs.Common.{false}
use Rattle.geo_tests_core.proofs.Building.{geom_built}
use Rattle.geo_tests_core.proofs.built.geom_of.Goals as goal

pub returns : goal.returns
returns g c = geom_built c.args.topo.now c.new_geom.new.self c.args.kind c.args.name c.args.config false
    c.requires.other c.in_ok-new_geom.ensures.added c.requires.built
