use Rattle.std.proofs.Common.{sym, ◌∙◌}
use Rattle.geo_model.specs.Topology.{Consumer, attached_to}
use Rattle.std.specs.Prelude.{not, ◌&&◌, ◌==◌}
use Rattle.geo_access.specs.Views.{raised, has_side, other}
use Rattle.geo_access.proofs.Folding.{found_begin, found_more}
use Rattle.geo_access.proofs.decide.other.Goals as goal

pub loop-id-init : goal.loop-id-init
loop-id-init g c =
    found_begin (λ (y : Consumer). y.number) (λ (y : Consumer). not (y.number == c.args.but)
    && has_side c.args.side (raised c.args.topo.now y))
    (attached_to c.args.topo.now.topology c.args.prov)

-- this consumer isn't one of that side, so the first that is lies among those that are left
pub loop-id-preserved : goal.loop-id-preserved
loop-id-preserved g c =
    rw c.number-from.ensures
    (found_more (λ (y : Consumer). y.number) (λ (y : Consumer). not (y.number == c.args.but)
    && has_side c.args.side (raised c.args.topo.now y))
    (attached_to c.args.topo.now.topology c.args.prov)
    _ _ _ (other c.args.topo.now c.args.prov c.args.but c.args.side)
    c.in-Some.ensures.next.left (sym c.fits.ensures ∙ c.if-fits.false) c.loop-id.invariant)
