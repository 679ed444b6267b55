use Rattle.std.proofs.Common.{refl, sym, arith, ap, ◌≡◌, ◌∙◌}
use Rattle.geo_model.specs.Topology.{set_withering}
use Rattle.geo_mesh.specs.Topo.{TopoView}
use Rattle.geo_life.specs.Life.{queued, sound_providers}
use Rattle.geo_life.proofs.Rest.{mesh_self, rest_more}
use Rattle.geo_model.specs.Events.{wither}
use Rattle.geo_life.proofs.Unseen.{seen_kept, seen_wither}
use Rattle.geo_life.proofs.Withering.{orphan_begin, orphan_step, orphan_end}
use Rattle.geo_life.proofs.Spoiling.{error_next}
use Rattle.geo_life.proofs.withers.wither.Goals as goal

-- the geom is marked; that gives no provider an error, and all its providers are left
pub loop-id-init : goal.loop-id-init
loop-id-init g c =
    let same : sound_providers c.set_withering.new.self.topology ≡ sound_providers c.args.topo.now.topology =
    ap (λ (v : TopoView g.row.C.Denot). sound_providers v.topology) c.set_withering.ensures in
    record {
      withered =
          orphan_begin c.args.geom (queued c.set_withering.new.self c.args.queue.now)
          ∙ rw c.set_withering.ensures refl;
      rest = record {
        mesh = mesh_self c.args.topo.now c.set_withering.new.self (set_withering c.args.topo.now.topology c.args.geom)
            c.set_withering.ensures;
        room = refl;
      };
      owed = omega (arith, same);
      room = omega (arith, same, c.requires.room);
    }

-- one that carried no error was orphaned as the model does it next; the others are as before and are left
pub loop-id-preserved : goal.loop-id-preserved
loop-id-preserved g c = record {
  withered =
      rw c.number-from.ensures
      (orphan_step c.args.geom (queued c.loop-id.topo c.loop-id.queue)
      (queued c.orphan_unless_errored.new.topo c.orphan_unless_errored.new.queue) c.loop-id.from _
      _ c.in-Some.ensures.next.left refl
      c.orphan_unless_errored.ensures.orphaned
      ∙ c.loop-id.invariant.withered);
  rest =
      rest_more c.args.topo.now c.args.queue.now c.loop-id.topo c.loop-id.queue c.orphan_unless_errored.new.topo
      c.orphan_unless_errored.new.queue c.loop-id.invariant.rest c.orphan_unless_errored.ensures.rest;
  owed = omega (arith, c.loop-id.invariant.owed, c.orphan_unless_errored.ensures.owed);
  room = omega (arith, c.loop-id.invariant.room, c.orphan_unless_errored.ensures.owed);
}

-- errors and withering geoms aren't seen by counts
pub returns-clause-kept : goal.returns-clause-kept
returns-clause-kept g c =
    seen_kept c.args.topo.now c.args.queue.now c.loop-id.topo c.loop-id.queue
    (wither (queued c.args.topo.now c.args.queue.now) c.args.geom) c.loop-id.invariant.rest
    (sym (orphan_end c.args.geom (queued c.loop-id.topo c.loop-id.queue) c.loop-id.from c.in_default.ensures.next)
    ∙ c.loop-id.invariant.withered)
    (seen_wither (queued c.args.topo.now c.args.queue.now) c.args.geom)

-- no provider was made, and the walk goes past this one
pub loop-id-smaller : goal.loop-id-smaller
loop-id-smaller g c =
    let next =
    error_next _ (queued c.loop-id.topo c.loop-id.queue)
    (queued c.orphan_unless_errored.new.topo c.orphan_unless_errored.new.queue) _
    c.orphan_unless_errored.ensures.orphaned in
    omega (arith, next, c.in-Some.ensures.next.known, c.in-Some.ensures.next.past, c.number-from.ensures)
