use Rattle.geo_life.proofs.Loose.{dropped_is, dropped_kept}
use Rattle.geo_life.proofs.washes.drop_consumer.Goals as goal

pub returns-clause-dropped : goal.returns-clause-dropped
returns-clause-dropped g c =
    dropped_is c.args.topo.now c.detach_if_attached.new.topo c.destroy_consumer.new.self c.args.cons
    c.detach_if_attached.ensures.mesh c.detach_if_attached.ensures.same c.destroy_consumer.ensures

-- the consumer held nothing, so all counts are right without it
pub returns-clause-kept : goal.returns-clause-kept
returns-clause-kept g c =
    dropped_kept c.args.topo.now c.destroy_consumer.new.self c.args.cons c.detach_if_attached.ensures.sound
    c.requires.lives c.requires.no_counts
    (returns-clause-dropped g c)
