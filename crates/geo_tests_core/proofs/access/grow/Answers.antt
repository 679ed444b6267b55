use Rattle.std.proofs.Common.{sym, subst, ℕ}
use Rattle.std.proofs.lemmas.Result.{on_ok_weaker}
use Rattle.geo_model.specs.Topology.{attach}
use Rattle.geo_mesh.specs.Topo.{TopoView}
use Rattle.geo_access.specs.Join.{IsCountedBut}
use Rattle.geo_access.specs.JoinLaws.{NewConsumersMayJoin}
use Rattle.geo_access.proofs.NewJoiner.{new_consumers_may_join}
use Rattle.geo_tests_core.specs.Built.{ConsumersAreAttached}
use Rattle.geo_tests_core.proofs.Building.{joined_attached}
use Rattle.geo_tests_core.proofs.access.grow.Goals as goal

pub join-requires-clause-counted : goal.join-requires-clause-counted
join-requires-clause-counted g c =
    subst (IsCountedBut c.new_consumer.new.self) (sym c.in_ok-cons.ensures.number)
    (NewConsumersMayJoin.counted new_consumers_may_join c.args.topo.now c.new_consumer.new.self c.args.geom
    c.geom.ensures.sound c.in_ok-cons.ensures.added c.requires.counted)

pub returns-clause-attached : goal.returns-clause-attached
returns-clause-attached g c =
    on_ok_weaker c.join.result
    (λ joined.
    subst (λ (v : TopoView ℕ). ConsumersAreAttached v.topology) (sym joined)
    (subst (λ (n : ℕ). ConsumersAreAttached (attach c.new_consumer.new.self.topology n c.args.prov))
    (sym c.in_ok-cons.ensures.number)
    (joined_attached c.args.topo.now c.new_consumer.new.self c.args.geom c.args.prov c.in_ok-cons.ensures.added
    c.requires.attached)))
    c.join.ensures.joined
