use Rattle.std.proofs.Common.{sym, ap, ◌∙◌, subst, ℕ}
use Rattle.geo_model.specs.Topology.{attach}
use Rattle.geo_mesh.specs.Topo.{with_topology}
use Rattle.geo_tests_core.specs.Built.{IsBuilt}
use Rattle.geo_tests_core.proofs.Building.{consumer_built}
use Rattle.geo_tests_core.proofs.built.consumer_of.Goals as goal

pub returns-in-Ok : goal.returns-in-Ok
returns-in-Ok g c =
    subst IsBuilt
    (sym (c.in-Ok.ensures.attached
    ∙ ap (λ (n : ℕ). with_topology c.new_consumer.new.self (attach c.new_consumer.new.self.topology n c.args.prov))
    c.in_ok-cons.ensures.number))
    (consumer_built c.args.topo.now c.new_consumer.new.self c.args.geom c.args.prov
    c.in_ok-cons.ensures.added c.requires)
