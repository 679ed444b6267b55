use Rattle.std.proofs.Common.{sym, subst}
use Rattle.geo_taste.specs.Taster.{IsSettled, IsTasteOf}
use Rattle.geo_mesh.specs.Topo.{TopoView}
use Rattle.geo_model.specs.World.{Config}
use Rattle.geo_tests_core.proofs.Tasting.{error_settled, error_tasting}
use Rattle.geo_tests_core.proofs.taste.fail_provider.Goals as goal

pub returns-clause-settled : goal.returns-clause-settled
returns-clause-settled c =
    subst IsSettled (sym c.set_error.ensures)
    (error_settled c.args.topo.now c.provider.ensures.sound.orderly.order c.requires.settled _)

pub returns-clause-tasting : goal.returns-clause-tasting
returns-clause-tasting c =
    subst (λ (t : TopoView Config). IsTasteOf t c.args.taste.now) (sym c.set_error.ensures)
    (error_tasting c.args.topo.now _ c.args.taste.now c.requires.tasting)
