use Rattle.std.proofs.Common.{◌≡◌, Some, refl, sym, ◌∙◌, subst, true}
use Rattle.geo_mesh.specs.Names.{RetiresName}
use Rattle.geo_mesh.proofs.ViewLemmas.{provider-view}
use Rattle.geo_mesh.proofs.WholeLemmas.{whole-errored}
use Rattle.geo_mesh.proofs.topo.Topo.set_error.Goals as goal

pub provider-requires : goal.provider-requires
provider-requires g c = rw (← c.self.view_is) at c.requires

pub provider_mut-requires : goal.provider_mut-requires
provider_mut-requires g c = rw (← c.self.view_is) at c.requires

pub returns : goal.returns
returns g c =
    rw (← c.self.view_is)
    (provider-view c.self.inside.tables c.args.prov c.provider_mut.result.now c.provider_mut.ensures.rising
    c.provider_mut.ensures.cell (λ x. record x { errored = true }) _ refl refl)

-- the names gave the provider up before it carries the error; the cell that was read is the one that is changed
pub invariant_of-self : goal.invariant_of-self
invariant_of-self g c =
    let cell : c.provider.result.now ≡ c.provider_mut.result.now =
    (let same : Some c.provider.result.now ≡ Some c.provider_mut.result.now = sym c.provider.ensures
    ∙ c.provider_mut.ensures.cell in cc) in
    whole-errored c.self.inside.tables c.self.invariant c.args.prov c.provider_mut.result.now c.retire.new.self
    c.provider_mut.ensures.rising
    c.provider_mut.ensures.cell
    (subst (λ v. RetiresName c.self.inside.tables.names c.retire.new.self v.provider.name v.provider.errored) cell
    c.retire.ensures.retired)
    (c.retire.ensures.room _ c.self.invariant.tables.names_room)
