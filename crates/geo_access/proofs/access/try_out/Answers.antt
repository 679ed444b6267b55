use Rattle.geo_access.proofs.Walking.{seen_lives}
use Rattle.geo_access.proofs.Ready.{provider_found, given_is, given_tried, given_steps}
use Rattle.geo_access.proofs.access.try_out.Goals as goal

-- a provider that stands has a geom that stands
pub gather-requires : goal.gather-requires
gather-requires g c =
    seen_lives c.args.topo.now.topology c.provider.ensures.sound c.args.prov c.unwrap.result.now
    (provider_found c.args.topo.now.topology c.args.prov c.unwrap.ensures c.provider.ensures.provider)

-- the order has only geoms that were reached downwards, and they stand
pub spread-requires : goal.spread-requires
spread-requires g c =
    let given = given_is c.args.topo.now c.args.prov c.args.add c.provider.ensures.sound c.requires.clear
    c.unwrap.ensures c.provider.ensures.provider c.number.ensures c.gather.ensures.gathered c.give.ensures in
    given.lives

-- what is spread from the mesh in which the demand is given is what was tried
pub returns : goal.returns
returns g c =
    let given = given_is c.args.topo.now c.args.prov c.args.add c.provider.ensures.sound c.requires.clear
    c.unwrap.ensures c.provider.ensures.provider c.number.ensures c.gather.ensures.gathered c.give.ensures in
    record {
      tried = given_tried c.args.way given c.spread.ensures.spread;
      sound = c.provider.ensures.sound;
      steps = given_steps c.args.way given c.spread.ensures.spread c.args.steps.now c.spread.ensures.steps;
    }
