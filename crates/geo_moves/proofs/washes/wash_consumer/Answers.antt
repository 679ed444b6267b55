use Rattle.std.proofs.Common.{refl}
use Rattle.geo_model.specs.declared.step.WashWork.TheVariants as works
use Rattle.geo_moves.proofs.Washed.{washed-world, consumer-kept}
use Rattle.geo_moves.proofs.washes.wash_consumer.Goals as goal

pub returns-clause-made : goal.returns-clause-made
returns-clause-made c =
    washed-world c.args.state.now c.requires.stands c.wash.new.topo c.wash.new.queue
    (record c.args.state.now { topo = c.wash.new.topo; queue = c.wash.new.queue })
    (works.Consumer c.args.cons) refl refl c.wash.ensures.washed

-- the consumer held nothing and no request was out through it, so only its own counts go with it
pub returns-clause-kept : goal.returns-clause-kept
returns-clause-kept c =
    consumer-kept c.args.state.now c.requires.stands c.wash.new.topo c.wash.new.queue
    c.wash.ensures.memory c.wash.ensures.kept c.args.cons c.wash.ensures.mesh c.wash.ensures.washed
