use Rattle.std.proofs.Common.{sym, ap, ◌∙◌}
use Rattle.std.specs.Prelude.{if◌then◌else◌}
use Rattle.geo_model.specs.Events.{wither_unless_withering}
use Rattle.geo_life.specs.Life.{queued}
use Rattle.geo_life.proofs.Spoiling.{next_is, unless_next}
use Rattle.geo_life.proofs.orphans.orphan_consumer.Goals as goal

-- for both ways: the test of DEV is the model's
pub returns-then-not-is_of_dev-clause-orphaned : goal.returns-then-not-is_of_dev-clause-orphaned
returns-then-not-is_of_dev-clause-orphaned g c =
    λ n.
    c.wither_unless_withering.ensures.withered
    ∙ sym (ap (λ b. if b then queued c.args.topo.now c.args.queue.now
    else wither_unless_withering (queued c.args.topo.now c.args.queue.now) c.args.cons.now.geom)
    (sym (c.is_of_dev.ensures n) ∙ c.if-not-is_of_dev.true))

pub returns-else-not-is_of_dev-clause-orphaned : goal.returns-else-not-is_of_dev-clause-orphaned
returns-else-not-is_of_dev-clause-orphaned g c =
    λ n.
    sym (ap (λ b. if b then queued c.args.topo.now c.args.queue.now
    else wither_unless_withering (queued c.args.topo.now c.args.queue.now) c.args.cons.now.geom)
    (sym (c.is_of_dev.ensures n) ∙ c.if-not-is_of_dev.false))

pub returns-then-not-is_of_dev-clause-next : goal.returns-then-not-is_of_dev-clause-next
returns-then-not-is_of_dev-clause-next g c =
    next_is
    (wither_unless_withering (queued c.args.topo.now c.args.queue.now) c.args.cons.now.geom)
    (queued c.wither_unless_withering.new.topo c.wither_unless_withering.new.queue)
    c.wither_unless_withering.ensures.withered
    ∙ unless_next (queued c.args.topo.now c.args.queue.now) c.args.cons.now.geom
