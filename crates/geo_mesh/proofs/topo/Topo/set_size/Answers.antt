use Rattle.std.proofs.Common.{◌≡◌, Some, true, refl}
use Rattle.geo_model.specs.Topology.{provider_at}
use Rattle.geo_mesh.specs.Topo.{is_provider_size}
use Rattle.geo_mesh.specs.Cells.{graph, provider_row}
use Rattle.geo_mesh.proofs.ViewLemmas.{provider-view}
use Rattle.geo_mesh.proofs.WholeLemmas.{whole-provider_cell, found_provider}
use Rattle.geo_mesh.proofs.topo.Topo.set_size.Goals as goal

pub provider_mut-requires : goal.provider_mut-requires
provider_mut-requires g c = rw (← c.self.view_is) at c.requires.lives

pub returns : goal.returns
returns g c =
    rw (← c.self.view_is)
    (provider-view c.self.inside.tables c.args.prov c.provider_mut.result.now c.provider_mut.ensures.rising
    c.provider_mut.ensures.cell (λ x. record x { size = c.args.size }) _ refl refl)

-- the new size is one that a provider of this sector size may have; nothing else that is kept reads it
pub invariant_of-self : goal.invariant_of-self
invariant_of-self g c =
    let found : provider_at (graph c.self.inside.tables) c.args.prov
    ≡ Some (provider_row (c.args.prov, c.provider_mut.result.now)) =
    found_provider c.self.inside.tables c.self.invariant.tables c.args.prov c.provider_mut.result.now
    c.provider_mut.ensures.cell in
    let fits : is_provider_size c.args.size c.provider_mut.result.now.provider.sector ≡ true =
    rw (← c.self.view_is, found) at c.requires.sectors in
    whole-provider_cell c.self.inside.tables c.self.invariant c.args.prov c.provider_mut.result.now _
    c.provider_mut.ensures.rising c.provider_mut.ensures.cell
    (record { geom = refl; name = refl; errored = refl; sizes = λ was. fits }) refl refl
