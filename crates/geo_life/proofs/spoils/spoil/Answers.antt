use Rattle.std.proofs.Common.{refl, sym, arith, ◌∙◌}
use Rattle.geo_life.specs.Life.{queued}
use Rattle.geo_life.proofs.Rest.{rest_none, rest_more}
use Rattle.geo_model.specs.Events.{spoil}
use Rattle.geo_life.proofs.Unseen.{seen_kept, seen_spoil}
use Rattle.geo_life.proofs.Spoiling.{spoil_begin, spoil_step, spoil_end}
use Rattle.geo_life.proofs.spoils.spoil.Goals as goal

-- nothing is done yet; no handle is marked, so those above that aren't DEV's are enough
pub loop-id-init : goal.loop-id-init
loop-id-init g c = record {
  spoiled = spoil_begin c.args.prov (queued c.args.topo.now c.args.queue.now) c.requires.unmarked;
  rest = rest_none c.args.topo.now c.args.queue.now;
  owed = refl;
  room = c.requires.room;
}

-- a marked one is spoiled as the model does it next; the others keep their marks and are left
pub loop-id-preserved : goal.loop-id-preserved
loop-id-preserved g c = record {
  spoiled =
      rw c.number-from.ensures
      (spoil_step c.args.prov (queued c.loop-id.topo c.loop-id.queue)
      (queued c.spoil_if_marked.new.topo c.spoil_if_marked.new.queue) c.loop-id.from
      _ c.in-Some.ensures.next.left
      c.spoil_if_marked.ensures.spoiled
      ∙ c.loop-id.invariant.spoiled);
  rest =
      rest_more c.args.topo.now c.args.queue.now c.loop-id.topo c.loop-id.queue c.spoil_if_marked.new.topo
      c.spoil_if_marked.new.queue c.loop-id.invariant.rest c.spoil_if_marked.ensures.rest;
  owed = omega (arith, c.loop-id.invariant.owed, c.spoil_if_marked.ensures.owed);
  room = omega (arith, c.loop-id.invariant.room, c.spoil_if_marked.ensures.owed);
}

-- marks, errors and withering geoms aren't seen by counts
pub returns-clause-kept : goal.returns-clause-kept
returns-clause-kept g c =
    seen_kept c.args.topo.now c.args.queue.now c.loop-id.topo c.loop-id.queue
    (spoil (queued c.args.topo.now c.args.queue.now) c.args.prov) c.loop-id.invariant.rest
    (sym (spoil_end c.args.prov (queued c.loop-id.topo c.loop-id.queue) c.loop-id.from c.in_default.ensures.next)
    ∙ c.loop-id.invariant.spoiled)
    (seen_spoil (queued c.args.topo.now c.args.queue.now) c.args.prov)

pub loop-id-smaller : goal.loop-id-smaller
loop-id-smaller g c =
    omega (
      arith,
      c.spoil_if_marked.ensures.next,
      c.in-Some.ensures.next.known,
      c.in-Some.ensures.next.past,
      c.number-from.ensures,
    )
