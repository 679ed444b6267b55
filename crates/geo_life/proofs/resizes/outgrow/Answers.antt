use Rattle.std.proofs.Common.{refl, sym, arith, ◌∙◌}
use Rattle.geo_model.specs.Events.{outgrow_consumer}
use Rattle.geo_life.specs.Life.{queued}
use Rattle.geo_life.proofs.Uppers.{outgrow_above}
use Rattle.geo_life.proofs.Rest.{rest_none, rest_more}
use Rattle.geo_life.proofs.Unseen.{mesh_kept, seen_if}
use Rattle.geo_life.proofs.MarkWalk.{outgrow_is, stored_still}
use Rattle.geo_life.proofs.Spoiling.{hear_begin, hear_step, hear_end, outgrow_leaves, if_next}
use Rattle.geo_life.proofs.resizes.outgrow.Goals as goal

-- nothing is done yet; DEV isn't automatic, so no handle is outgrown and those above that aren't DEV's are enough
pub loop-id-init : goal.loop-id-init
loop-id-init g c = record {
  outgrown = λ granted stored.
      hear_begin c.args.prov (outgrow_consumer granted) (outgrow_leaves granted)
      (queued c.args.topo.now c.args.queue.now)
      ∙ outgrow_above granted (queued c.args.topo.now c.args.queue.now) c.args.prov c.requires.made;
  rest = rest_none c.args.topo.now c.args.queue.now;
  seen = refl;
  owed = refl;
  room = c.requires.room;
}

-- counts see no withering, so the stored want is the model's still and tells whether this one is outgrown
pub loop-id-preserved : goal.loop-id-preserved
loop-id-preserved g c = record {
  outgrown = λ granted stored.
      rw c.number-from.ensures
      (hear_step c.args.prov (outgrow_consumer granted) (outgrow_leaves granted)
      (queued c.loop-id.topo c.loop-id.queue)
      (queued c.wither_if_outgrown.new.topo c.wither_if_outgrown.new.queue) c.loop-id.from
      _ c.in-Some.ensures.next.left
      (outgrow_is granted c.loop-id.topo c.loop-id.queue
      (queued c.wither_if_outgrown.new.topo c.wither_if_outgrown.new.queue)
      _ _
      (stored_still granted c.args.topo.now c.loop-id.topo c.loop-id.invariant.rest.mesh c.loop-id.invariant.seen
      stored) c.in-Some.ensures.next.lives c.in-Some.ensures.want c.wither_if_outgrown.ensures.outgrown)
      ∙ c.loop-id.invariant.outgrown granted stored);
  rest =
      rest_more c.args.topo.now c.args.queue.now c.loop-id.topo c.loop-id.queue c.wither_if_outgrown.new.topo
      c.wither_if_outgrown.new.queue c.loop-id.invariant.rest c.wither_if_outgrown.ensures.rest;
  seen =
      seen_if _ (queued c.loop-id.topo c.loop-id.queue)
      (queued c.wither_if_outgrown.new.topo c.wither_if_outgrown.new.queue) _ c.wither_if_outgrown.ensures.outgrown
      ∙ c.loop-id.invariant.seen;
  owed = omega (arith, c.loop-id.invariant.owed, c.wither_if_outgrown.ensures.owed);
  room = omega (arith, c.loop-id.invariant.room, c.wither_if_outgrown.ensures.owed);
}

pub returns-clause-outgrown : goal.returns-clause-outgrown
returns-clause-outgrown g c =
    λ granted stored.
    sym (hear_end c.args.prov (outgrow_consumer granted) (outgrow_leaves granted)
    (queued c.loop-id.topo c.loop-id.queue) c.loop-id.from c.in_default.ensures.next)
    ∙ c.loop-id.invariant.outgrown granted stored

pub returns-clause-kept : goal.returns-clause-kept
returns-clause-kept g c =
    mesh_kept c.args.topo.now c.loop-id.topo c.loop-id.invariant.rest.mesh c.loop-id.invariant.seen

-- a geom that withers makes no consumer, and the walk goes past this one
pub loop-id-smaller : goal.loop-id-smaller
loop-id-smaller g c =
    let next = if_next _ (queued c.loop-id.topo c.loop-id.queue)
    (queued c.wither_if_outgrown.new.topo c.wither_if_outgrown.new.queue) _ c.wither_if_outgrown.ensures.outgrown in
    omega (arith, next, c.in-Some.ensures.next.known, c.in-Some.ensures.next.past, c.number-from.ensures)
