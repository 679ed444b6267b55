use Rattle.std.proofs.Common.{sym, ap, ◌∙◌, subst}
use Rattle.geo_taste.specs.Taster.{first_taste, IsSettled, IsTasteOf}
use Rattle.geo_taste.proofs.Coming.{settled_roomed, taster_can, taster_settled, taster_tasting}
use Rattle.geo_taste.proofs.taster.begin.Goals as goal
use Rattle.geo_taste.proofs.Raising.{attached_is}

pub returns-in_err-consumer-clause-settled : goal.returns-in_err-consumer-clause-settled
returns-in_err-consumer-clause-settled c =
    subst IsSettled (sym c.in_err-consumer.ensures.same)
    (settled_roomed c.args.topo.now c.new_consumer.new.self.room c.requires.settled)

pub attach-requires-clause-consumer : goal.attach-requires-clause-consumer
attach-requires-clause-consumer c =
    (taster_can c.args.topo.now c.new_consumer.new.self c.args.prov c.in_ok-consumer.consumer
    c.taste_geom-geom.ensures.number c.in_ok-consumer.ensures.number c.taste_geom-geom.ensures.sound
    c.in_ok-consumer.ensures.added c.requires.tasted).consumer

-- a provider to be tasted carries no error, and a consumer of TASTE closes no loop and is never too deep
pub unreachable-requires : goal.unreachable-requires
unreachable-requires c =
    let can = taster_can c.args.topo.now c.new_consumer.new.self c.args.prov c.in_ok-consumer.consumer
    c.taste_geom-geom.ensures.number c.in_ok-consumer.ensures.number c.taste_geom-geom.ensures.sound
    c.in_ok-consumer.ensures.added c.requires.tasted in
    let never = sym can.accepted ∙ c.in-Err.ensures.answer in
    absurd (cc)

pub returns-clause-added : goal.returns-clause-added
returns-clause-added c =
    attached_is c.args.topo.now c.new_consumer.new.self c.attach.new.self 2 c.args.prov c.in_ok-consumer.consumer
    (taster_can c.args.topo.now c.new_consumer.new.self c.args.prov c.in_ok-consumer.consumer
    c.taste_geom-geom.ensures.number c.in_ok-consumer.ensures.number c.taste_geom-geom.ensures.sound
    c.in_ok-consumer.ensures.added c.requires.tasted) c.in-Ok.ensures.attached

-- the new consumer holds nothing, so all counts are right with it
pub returns-clause-settled : goal.returns-clause-settled
returns-clause-settled c =
    subst IsSettled (sym (returns-clause-added c))
    (taster_settled c.args.topo.now c.taste_geom-geom.ensures.sound c.requires.settled c.args.prov
    c.attach.new.self.room)

-- TASTE had no consumer, so the new one is its only one
pub returns-clause-tasting : goal.returns-clause-tasting
returns-clause-tasting c = λ alone.
    subst (λ s. IsTasteOf c.attach.new.self s)
    (sym (c.new.ensures ∙ ap (first_taste c.args.prov) c.in_ok-consumer.ensures.number))
    (subst (λ v. IsTasteOf v (first_taste c.args.prov c.args.topo.now.topology.next_consumer))
    (sym (returns-clause-added c))
    (taster_tasting c.args.topo.now c.taste_geom-geom.ensures.sound c.requires.settled.counted c.args.prov
    c.attach.new.self.room alone))
