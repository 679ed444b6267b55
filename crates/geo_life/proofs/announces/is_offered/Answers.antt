use Rattle.geo_life.proofs.Errors.{not_offered_is, offered_sound, offered_errored}
use Rattle.geo_life.proofs.announces.is_offered.Goals as goal

-- for both ways: the geom that was looked up is the provider's, so its withering and the error decide
pub returns-then-not-found : goal.returns-then-not-found
returns-then-not-found g c =
    offered_sound c.in-Some.found.now.errored c.in-Some-geom.geom.now.withering _ c.if-not-found.true
    (not_offered_is c.args.topo.now.topology c.provider.ensures.sound.orderly.order c.args.prov _
    c.in-Some.ensures.provider _ c.in-Some-geom.ensures.geom)

pub returns-else-not-found : goal.returns-else-not-found
returns-else-not-found g c =
    offered_errored c.in-Some.found.now.errored c.in-Some-geom.geom.now.withering _ c.if-not-found.false
    (not_offered_is c.args.topo.now.topology c.provider.ensures.sound.orderly.order c.args.prov _
    c.in-Some.ensures.provider _ c.in-Some-geom.ensures.geom)
