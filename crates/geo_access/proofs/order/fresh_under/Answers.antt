use Rattle.geo_access.proofs.Walking.{seen_lives}
use Rattle.geo_access.proofs.order.fresh_under.Goals as goal

-- for both: a provider that stands has a geom that stands
pub geom_scratch-marked-requires : goal.geom_scratch-marked-requires
geom_scratch-marked-requires g c =
    seen_lives c.args.topo.now.topology c.provider.ensures.sound c.in_ok-cons.field-0 c.in_ok-prov.prov.now
    c.in_ok-prov.ensures.provider

pub returns-then-marked-eq0-clause-lives : goal.returns-then-marked-eq0-clause-lives
returns-then-marked-eq0-clause-lives g c =
    seen_lives c.args.topo.now.topology c.provider.ensures.sound c.in_ok-cons.field-0 c.in_ok-prov.prov.now
    c.in_ok-prov.ensures.provider
