use Rattle.std.proofs.Common.{true, refl, ◌∙◌}
use Rattle.geo_mesh.proofs.ViewLemmas.{geom-view}
use Rattle.geo_mesh.proofs.WholeLemmas.{whole-geom_withers}
use Rattle.geo_mesh.proofs.topo.Topo.set_withering.Goals as goal

pub geom_mut-requires : goal.geom_mut-requires
geom_mut-requires g c = rw (← c.self.view_is) at c.requires

-- that the geom withers concerns its own mark alone, which it may now need
pub look_again-requires : goal.look_again-requires
look_again-requires g c =
    rw c.number.ensures
    (whole-geom_withers c.self.inside.tables c.self.invariant c.args.geom c.geom_mut.result.now
    (record c.geom_mut.result.now { geom = record c.geom_mut.result.now.geom { withering = true } })
    c.geom_mut.ensures.rising c.geom_mut.ensures.cell
    (record { kind = refl; name = refl; rank = refl }) refl)

-- looking again changes a mark alone, which doesn't show; that the geom withers does
pub returns : goal.returns
returns g c =
    c.look_again.ensures.same
    ∙ (rw (← c.self.view_is)
    (geom-view c.self.inside.tables c.args.geom c.geom_mut.result.now c.geom_mut.ensures.rising
    c.geom_mut.ensures.cell (λ x. record x { withering = true }) _ refl refl))
