use Rattle.std.proofs.Common.{sym, ◌∙◌}
use Rattle.geo_model.specs.FixedOrder.{fixed_order}
use Rattle.geo_model.proofs.RestLemmas.{pick-rest}
use Rattle.geo_laws_rest.proofs.Picking.{pick_goes_on}
use Rattle.geo_core.specs.Mesh.{world_of}
use Rattle.geo_drain.proofs.Falling.{due_falls}
use Rattle.geo_drain.proofs.Full.{none_at_rest}
use Rattle.geo_drain.proofs.picking.pick.Goals as goal

pub returns-then-at_rest-clause-picked : goal.returns-then-at_rest-clause-picked
returns-then-at_rest-clause-picked c =
    sym (pick-rest (world_of c.args.mesh.now) (sym c.at_rest.ensures.rest ∙ c.if-at_rest.true))

-- where a step is enabled the order has one, and at rest it has none
pub returns-clause-rest : goal.returns-clause-rest
returns-clause-rest c =
    none_at_rest fixed_order c.args.mesh.now pick_goes_on (λ w _ rest. pick-rest w rest) c.at_rest.ensures.history
    c.requires c.first_enabled.result c.first_enabled.ensures

-- and the step that it has lowers the measure
pub returns-clause-falls : goal.returns-clause-falls
returns-clause-falls c =
    due_falls fixed_order c.args.mesh.now pick_goes_on (λ w _ rest. pick-rest w rest) c.at_rest.ensures.history
    c.requires c.first_enabled.result c.first_enabled.ensures
