use Rattle.std.proofs.Common.{refl, sym, arith, ◌∙◌, inl, inr}
use Rattle.geo_model.specs.Events.{orphan, orphan_consumer}
use Rattle.geo_life.specs.Life.{queued}
use Rattle.geo_life.proofs.Uppers.{orphan_above}
use Rattle.geo_life.proofs.Rest.{rest_none, rest_more, sound_known}
use Rattle.geo_life.proofs.Unseen.{seen_kept, seen_orphan}
use Rattle.geo_life.proofs.Spoiling.{hear_begin, hear_step, hear_end, heard_leaves}
use Rattle.geo_life.proofs.orphans.orphan.Goals as goal

-- nothing is done yet; consumers of DEV hear nothing, so those above that aren't DEV's are enough
pub loop-id-init : goal.loop-id-init
loop-id-init g c = record {
  orphaned = λ sound.
      hear_begin c.args.prov orphan_consumer heard_leaves (queued c.args.topo.now c.args.queue.now)
      ∙ orphan_above (queued c.args.topo.now c.args.queue.now) c.args.prov sound;
  known = inl refl;
  rest = rest_none c.args.topo.now c.args.queue.now;
  owed = refl;
  room = c.requires.room;
}

-- the consumer heard of it as the model has it next, and no consumer came or went, so the others are left
pub loop-id-preserved : goal.loop-id-preserved
loop-id-preserved g c = record {
  orphaned = λ sound.
      rw c.number-from.ensures
      (hear_step c.args.prov orphan_consumer heard_leaves (queued c.loop-id.topo c.loop-id.queue)
      (queued c.orphan_consumer.new.topo c.orphan_consumer.new.queue) c.loop-id.from
      _ c.in-Some.ensures.next.left
      (c.orphan_consumer.ensures.orphaned c.in-Some.id)
      ∙ c.loop-id.invariant.orphaned sound);
  known = inr (sound_known c.args.topo.now c.loop-id.topo c.loop-id.invariant.known c.in-Some.ensures.sound);
  rest =
      rest_more c.args.topo.now c.args.queue.now c.loop-id.topo c.loop-id.queue c.orphan_consumer.new.topo
      c.orphan_consumer.new.queue c.loop-id.invariant.rest c.orphan_consumer.ensures.rest;
  owed = omega (arith, c.loop-id.invariant.owed, c.orphan_consumer.ensures.owed);
  room = omega (arith, c.loop-id.invariant.room, c.orphan_consumer.ensures.owed);
}

pub returns-clause-orphaned : goal.returns-clause-orphaned
returns-clause-orphaned g c =
    sym (hear_end c.args.prov orphan_consumer heard_leaves (queued c.loop-id.topo c.loop-id.queue) c.loop-id.from
    c.in_default.ensures.next)
    ∙ c.loop-id.invariant.orphaned
    (sound_known c.args.topo.now c.loop-id.topo c.loop-id.invariant.known c.in_default.ensures.sound)

pub returns-clause-kept : goal.returns-clause-kept
returns-clause-kept g c =
    seen_kept c.args.topo.now c.args.queue.now c.loop-id.topo c.loop-id.queue
    (orphan (queued c.args.topo.now c.args.queue.now) c.args.prov) c.loop-id.invariant.rest
    (returns-clause-orphaned g c)
    (seen_orphan (queued c.args.topo.now c.args.queue.now) c.args.prov)

pub loop-id-smaller : goal.loop-id-smaller
loop-id-smaller g c =
    omega (
      arith,
      c.orphan_consumer.ensures.next,
      c.in-Some.ensures.next.known,
      c.in-Some.ensures.next.past,
      c.number-from.ensures,
    )
