use Rattle.std.proofs.Common.{ap, ◌∙◌, false}
use Rattle.geo_model.specs.World.{Config}
use Rattle.geo_mesh.specs.Topo.{TopoView}
use Rattle.geo_taste.proofs.Raising.{risen_free, risen_offered}
use Rattle.geo_taste.proofs.commands.build.Goals as goal

-- neither room that is kept nor a new geom brings a provider, so the name is free still
pub make_offer-requires-clause-free : goal.make_offer-requires-clause-free
make_offer-requires-clause-free c =
    risen_free c.args.topo.now c.reserve.new.self c.raise-id.new.topo c.args.geom.kind c.args.geom.name
    c.args.geom.config false c.args.below.now c.reserve.ensures.same c.raise-id.ensures.raised c.args.offer.now.name
    c.requires.free

-- keeping room changes no part, so the geom that was raised and its offer are those of the model
pub returns-clause-built : goal.returns-clause-built
returns-clause-built c =
    risen_offered c.args.topo.now c.reserve.new.self c.raise-id.new.topo c.args.geom.kind c.args.geom.name
    c.args.geom.config false c.args.below.now c.reserve.ensures.same c.raise-id.ensures.raised
    c.make_offer.new.topo c.args.queue.now c.reserve-2.new.self c.make_offer.new.queue c.raise-id.result
    c.args.offer.now.name c.args.offer.now.size c.args.offer.now.sector c.reserve-2.ensures.events_stay
    (c.raise-id.ensures.number
    ∙ ap (λ (x : TopoView Config). x.topology.next_geom) c.reserve.ensures.same)
    c.make_offer.ensures.made
