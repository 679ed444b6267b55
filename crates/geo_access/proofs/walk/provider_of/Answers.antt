use Rattle.std.proofs.Common.{sym}
use Rattle.std.specs.Prelude.{◌==◌}
use Rattle.geo_model.specs.Topology.{providers_of}
use Rattle.geo_access.proofs.Walking.{providers_end, provider_next, provider_some}
use Rattle.geo_access.proofs.walk.provider_of.Goals as goal

pub returns-in_err-id-clause-next : goal.returns-in_err-id-clause-next
returns-in_err-id-clause-next g c =
    rw c.from_residual.ensures (providers_end (providers_of c.args.topo.now.topology c.args.geom) c.args.from
    (sym c.in_err-id.ensures.first))

-- the number is that of a provider that was met on the walk, so one stands there
pub returns-in_err-prov-clause-next : goal.returns-in_err-prov-clause-next
returns-in_err-prov-clause-next g c =
    absurd
    (provider_some c.args.topo.now.topology c.provider.ensures.sound (λ x. x.geom == c.args.geom) c.args.from
    c.in_ok-id.id
    (sym c.in_ok-id.ensures.first) c.in_err-prov.ensures.provider)

pub returns-clause-next : goal.returns-clause-next
returns-clause-next g c =
    provider_next c.args.topo.now.topology c.provider.ensures.sound (λ x. x.geom == c.args.geom) c.args.from
    c.in_ok-id.id c.in_ok-prov.prov.now
    (sym c.in_ok-id.ensures.first) c.in_ok-prov.ensures.provider
