use Rattle.std.proofs.Common.{refl}
use Rattle.geo_mesh.proofs.ViewLemmas.{consumer-view}
use Rattle.geo_mesh.proofs.WholeLemmas.{whole-consumer_cell}
use Rattle.geo_mesh.proofs.topo.Topo.set_spoiled.Goals as goal

pub consumer_mut-requires : goal.consumer_mut-requires
consumer_mut-requires g c = rw (← c.self.view_is) at c.requires

pub returns : goal.returns
returns g c =
    rw (← c.self.view_is)
    (consumer-view c.self.inside.tables c.args.cons c.consumer_mut.result.now c.consumer_mut.ensures.rising
    c.consumer_mut.ensures.cell (λ x. record x { spoiled = c.args.marked }) _ refl refl)

-- whether a consumer is spoiled is read by nothing that a mesh keeps
pub invariant_of-self : goal.invariant_of-self
invariant_of-self g c =
    whole-consumer_cell c.self.inside.tables c.self.invariant c.args.cons c.consumer_mut.result.now _
    c.consumer_mut.ensures.rising c.consumer_mut.ensures.cell
    (record { geom = refl; provider = refl }) refl
