use Rattle.std.proofs.Common.{refl}
use Rattle.geo_mesh.proofs.ViewLemmas.{set_have-view}
use Rattle.geo_mesh.proofs.WholeLemmas.{whole-provider_cell}
use Rattle.geo_mesh.proofs.topo.Topo.set_have.Goals as goal

pub provider_mut-requires : goal.provider_mut-requires
provider_mut-requires g c = rw (← c.self.view_is) at c.requires

pub returns : goal.returns
returns g c =
    rw (← c.self.view_is)
    (set_have-view c.self.inside.tables c.args.prov c.provider_mut.result.now c.provider_mut.ensures.rising
    c.provider_mut.ensures.cell c.args.have)

-- a provider's counts are read by nothing that a mesh keeps
pub invariant_of-self : goal.invariant_of-self
invariant_of-self g c =
    whole-provider_cell c.self.inside.tables c.self.invariant c.args.prov c.provider_mut.result.now _
    c.provider_mut.ensures.rising c.provider_mut.ensures.cell
    (record { geom = refl; name = refl; errored = refl; sizes = λ fits. fits }) refl refl
