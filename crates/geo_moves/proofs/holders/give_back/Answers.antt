use Rattle.geo_moves.proofs.Holding.{goer_nothing, gone_room, has_gone}
use Rattle.geo_moves.proofs.holders.give_back.Goals as goal

-- after the release the consumer is granted nothing, so it wants nothing
pub drop_consumer-requires-clause-no_counts : goal.drop_consumer-requires-clause-no_counts
drop_consumer-requires-clause-no_counts g c =
    goer_nothing c.args.topo.now c.requires.counted c.args.cons c.requires.holder c.release.new.topo
    c.release.ensures.released

-- only a provider that was written can fall, and a place is kept for each
pub announce_fallen-requires-clause-room : goal.announce_fallen-requires-clause-room
announce_fallen-requires-clause-room g c =
    gone_room c.args.topo.now c.requires.counted c.args.cons c.requires.holder c.release.new.topo
    c.release.ensures.released c.drop_consumer.new.topo c.drop_consumer.ensures.dropped c.args.queue.now
    c.requires.room

-- a consumer that wants nothing takes no count along, so the noted falls are those of the model
pub returns-clause-gone : goal.returns-clause-gone
returns-clause-gone g c =
    has_gone c.args.topo.now c.requires.counted c.args.cons c.requires.holder c.release.new.topo
    c.release.ensures.released c.drop_consumer.new.topo c.drop_consumer.ensures.dropped c.args.queue.now
    c.requires.quiet c.drop_consumer.ensures.kept c.release.ensures.fallen c.announce_fallen.new.topo
    c.announce_fallen.new.queue c.announce_fallen.ensures.announced c.announce_fallen.ensures.mesh
    c.announce_fallen.ensures.room c.announce_fallen.ensures.counted
