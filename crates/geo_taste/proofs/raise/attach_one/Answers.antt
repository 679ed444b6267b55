use Rattle.std.proofs.Common.{◌≡◌, None, Some, sym, ◌∙◌}
use Rattle.geo_taste.proofs.Raising.{attach_can, attached_is}
use Rattle.geo_taste.proofs.raise.attach_one.Goals as goal

pub attach-requires-clause-consumer : goal.attach-requires-clause-consumer
attach-requires-clause-consumer c =
    (attach_can c.args.topo.now c.new_consumer.new.self c.args.geom c.args.prov c.coming_consumer-cons.result
    c.coming_consumer-cons.ensures.number c.coming_consumer-cons.ensures.sound c.in-Ok.ensures.added c.requires.lives
    c.requires.bare c.requires.stands).consumer

-- the provider carries no error, a geom without providers closes no loop, and it gets no rank above 32
pub unreachable-requires-in_default-attach : goal.unreachable-requires-in_default-attach
unreachable-requires-in_default-attach c =
    let can = attach_can c.args.topo.now c.new_consumer.new.self c.args.geom c.args.prov
    c.coming_consumer-cons.result c.coming_consumer-cons.ensures.number c.coming_consumer-cons.ensures.sound
    c.in-Ok.ensures.added c.requires.lives c.requires.bare c.requires.stands in
    let no : None ≡ Some _ = sym can.accepted ∙ c.in_default-attach.ensures.answer in
    let never : ⊥ = cc in
    never

pub returns-clause-attached : goal.returns-clause-attached
returns-clause-attached c =
    attached_is c.args.topo.now c.new_consumer.new.self c.attach.new.self c.args.geom c.args.prov
    c.coming_consumer-cons.result
    (attach_can c.args.topo.now c.new_consumer.new.self c.args.geom c.args.prov c.coming_consumer-cons.result
    c.coming_consumer-cons.ensures.number c.coming_consumer-cons.ensures.sound c.in-Ok.ensures.added c.requires.lives
    c.requires.bare c.requires.stands)
    c.in-Ok-attach.ensures.attached
