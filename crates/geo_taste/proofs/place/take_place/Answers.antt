use Rattle.geo_taste.proofs.JoinLemmas.{may_placed}
use Rattle.geo_taste.proofs.place.take_place.Goals as goal

-- one more consumer and another configuration don't keep the geom from getting a provider
pub make_offer-requires-clause-may : goal.make_offer-requires-clause-may
make_offer-requires-clause-may c =
    may_placed c.args.topo.now c.attach_one.new.topo c.swap_config.new.self c.args.geom c.args.prov c.args.plan.filled
    c.attach_one.ensures.attached c.swap_config.ensures.swapped c.requires.may
