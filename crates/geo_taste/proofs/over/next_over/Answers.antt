use Rattle.std.proofs.Common.{List, sym, ap, ◌∙◌}
use Rattle.geo_mesh.specs.Topo.{first_consumer}
use Rattle.geo_model.specs.Topology.{Consumer}
use Rattle.geo_taste.proofs.Asking.{over_all, over_above}
use Rattle.geo_taste.proofs.over.next_over.Goals as goal

-- for DEV all consumers at the provider are looked at, for another class those that aren't handles
pub returns-then-is_kind-clause-first : goal.returns-then-is_kind-clause-first
returns-then-is_kind-clause-first c =
    c.attached_to.ensures.first
    ∙ ap (λ (xs : List Consumer). first_consumer xs c.args.from)
    (over_all c.args.topo.now.topology c.args.kind c.args.prov (sym c.is_kind.ensures ∙ c.if-is_kind.true))

pub returns-else-is_kind-clause-first : goal.returns-else-is_kind-clause-first
returns-else-is_kind-clause-first c =
    c.above.ensures.first
    ∙ ap (λ (xs : List Consumer). first_consumer xs c.args.from)
    (over_above c.args.topo.now.topology c.args.kind c.args.prov (sym c.is_kind.ensures ∙ c.if-is_kind.false))
