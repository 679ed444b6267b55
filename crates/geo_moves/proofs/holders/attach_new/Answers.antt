use Rattle.std.proofs.Common.{sym, ◌∙◌}
use Rattle.geo_moves.specs.Holders.{grants_with}
use Rattle.geo_moves.proofs.Holding.{made_loose, attach_goes, attached_is}
use Rattle.geo_moves.proofs.holders.attach_new.Goals as goal

pub attach-requires-clause-consumer : goal.attach-requires-clause-consumer
attach-requires-clause-consumer g c =
    made_loose c.args.topo.now c.new_consumer.new.self c.in_ok-cons.ensures.sound c.new.result
    c.in_ok-cons.ensures.added c.new.ensures c.in_ok-cons.cons c.in_ok-cons.ensures.number

-- counts that nothing refuses mean no error below; a consumer of DEV closes no loop and is never too deep
pub unreachable-requires : goal.unreachable-requires
unreachable-requires g c =
    let none = attach_goes c.args.topo.now c.new_consumer.new.self c.in_ok-cons.ensures.sound c.new.result
    c.in_ok-cons.ensures.added c.new.ensures c.in_ok-cons.cons c.in_ok-cons.ensures.number c.args.prov c.requires.lives
    (grants_with c.args.topo.now c.args.add) c.requires.allowed in
    let never = sym none ∙ c.in-Err.ensures.answer in
    absurd (cc)

pub returns-clause-attached : goal.returns-clause-attached
returns-clause-attached g c =
    attached_is c.args.topo.now c.new_consumer.new.self c.in_ok-cons.ensures.sound c.new.result
    c.in_ok-cons.ensures.added c.new.ensures c.in_ok-cons.cons c.in_ok-cons.ensures.number c.args.prov
    c.attach.new.self c.in-Ok.ensures.attached
