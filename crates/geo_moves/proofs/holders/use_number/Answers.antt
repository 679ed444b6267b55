use Rattle.geo_moves.proofs.Holding.{made_free, made_gone}
use Rattle.geo_moves.proofs.holders.use_number.Goals as goal

pub destroy_consumer-requires : goal.destroy_consumer-requires
destroy_consumer-requires g c =
    made_free c.args.topo.now c.new_consumer.new.self c.in_ok-cons.ensures.sound c.new.result
    c.in_ok-cons.ensures.added c.new.ensures c.in_ok-cons.cons c.in_ok-cons.ensures.number

-- a consumer made and destroyed at once leaves only its number used up
pub returns-clause-used : goal.returns-clause-used
returns-clause-used g c =
    made_gone c.args.topo.now c.new_consumer.new.self c.in_ok-cons.ensures.sound c.new.result
    c.in_ok-cons.ensures.added c.new.ensures c.in_ok-cons.cons c.in_ok-cons.ensures.number
    c.requires.counted c.requires.unknown c.destroy_consumer.new.self c.destroy_consumer.ensures
