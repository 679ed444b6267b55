use Rattle.std.proofs.Common.{◌+◌, ◌<◌, ◌^◌, rules, refl}
use Rattle.geo_mesh.proofs.ViewLemmas.{geom-view, geom_at-view}
use Rattle.geo_mesh.proofs.WholeLemmas.{whole-geom_cell}
use Rattle.geo_mesh.proofs.topo.Topo.note_started.Goals as goal

pub geom_mut-requires : goal.geom_mut-requires
geom_mut-requires g c = rw (← c.self.view_is) at c.requires.lives

pub returns : goal.returns
returns g c =
    rw (← c.self.view_is)
    (geom-view c.self.inside.tables c.args.geom c.geom_mut.result.now c.geom_mut.ensures.rising
    c.geom_mut.ensures.cell (λ x. record x { started = x.started + 1 }) _ refl refl)

-- names, ranks and marks don't read how many requests a geom started
pub invariant_of-self : goal.invariant_of-self
invariant_of-self g c =
    whole-geom_cell c.self.inside.tables c.self.invariant c.args.geom c.geom_mut.result.now _
    c.geom_mut.ensures.rising c.geom_mut.ensures.cell
    (record { kind = refl; name = refl; rank = refl }) refl

-- the count in the cell is the one that the graph shows, which the caller keeps small
pub overflow_add-geom_mut : goal.overflow_add-geom_mut
overflow_add-geom_mut g c =
    let few : c.geom_mut.result.now.geom.started < 2 ^ 63 =
    rw (
      ← c.self.view_is,
      geom_at-view c.self.inside.tables.geoms c.self.inside.tables.edges c.args.geom,
      c.geom_mut.ensures.cell,
    ) at c.requires.few in
    search rules
