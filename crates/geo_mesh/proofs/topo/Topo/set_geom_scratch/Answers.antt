use Rattle.std.proofs.Common.{refl}
use Rattle.geo_mesh.proofs.ViewLemmas.{set_geom_scratch-view}
use Rattle.geo_mesh.proofs.WholeLemmas.{whole-geom_cell}
use Rattle.geo_mesh.proofs.topo.Topo.set_geom_scratch.Goals as goal

pub geom_mut-requires : goal.geom_mut-requires
geom_mut-requires g c = rw (← c.self.view_is) at c.requires

pub returns : goal.returns
returns g c =
    rw (← c.self.view_is)
    (set_geom_scratch-view c.self.inside.tables c.args.geom c.geom_mut.result.now c.geom_mut.ensures.rising
    c.geom_mut.ensures.cell c.args.scratch)

-- the scratch is read by nothing that a mesh keeps
pub invariant_of-self : goal.invariant_of-self
invariant_of-self g c =
    whole-geom_cell c.self.inside.tables c.self.invariant c.args.geom c.geom_mut.result.now _
    c.geom_mut.ensures.rising c.geom_mut.ensures.cell
    (record { kind = refl; name = refl; rank = refl }) refl
