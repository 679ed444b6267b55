use Rattle.std.proofs.Common.{refl, sym, ap, ◌∙◌, inl, inr}
use Rattle.geo_mesh.specs.Topo.{TopoView}
use Rattle.geo_life.proofs.Rest.{mesh_self, sound_known}
use Rattle.geo_life.proofs.Unseen.{mesh_kept}
use Rattle.geo_life.proofs.MarkWalk.{marks_begin, marks_step, marks_end, mark_mesh, mark_unseen}
use Rattle.geo_life.proofs.spoils.mark_spoiled.Goals as goal

-- no mark is set yet; DEV isn't automatic and isn't TASTE, so those above that aren't DEV's are enough
pub loop-id-init : goal.loop-id-init
loop-id-init g c = record {
  marked = λ granted stored sound.
      marks_begin granted c.args.topo.now c.args.prov stored sound c.requires.made;
  mesh = refl;
  seen = refl;
  known = inl refl;
}

-- counts see no marks, so the stored want is the model's still and tells whether this one is to be marked
pub loop-id-preserved : goal.loop-id-preserved
loop-id-preserved g c = record {
  marked = λ granted stored sound.
      rw c.number-from.ensures
      (marks_step granted c.args.topo.now c.args.prov stored sound c.requires.made
      c.loop-id.topo c.loop-id.invariant.mesh
      c.loop-id.invariant.seen c.in-Some.ensures.sound c.loop-id.from _ _
      c.in-Some.ensures.next c.in-Some.ensures.want c.mark_if_due.new.topo.topology
      (ap (λ (v : TopoView g.row.C.Denot). v.topology) c.mark_if_due.ensures.marked)
      ∙ c.loop-id.invariant.marked granted stored sound);
  mesh =
      mark_mesh c.args.topo.now c.loop-id.topo c.mark_if_due.new.topo
      _ _
      c.loop-id.invariant.mesh c.mark_if_due.ensures.marked;
  seen =
      mark_unseen c.loop-id.topo c.mark_if_due.new.topo
      _ _
      c.mark_if_due.ensures.marked
      ∙ c.loop-id.invariant.seen;
  known = inr (sound_known c.args.topo.now c.loop-id.topo c.loop-id.invariant.known c.in-Some.ensures.sound);
}

pub returns-clause-marked : goal.returns-clause-marked
returns-clause-marked g c =
    λ granted stored.
    let sound = sound_known c.args.topo.now c.loop-id.topo c.loop-id.invariant.known c.in_default.ensures.sound in
    sym (marks_end granted c.args.topo.now c.args.prov stored sound c.requires.made
    c.loop-id.topo.topology c.loop-id.from
    c.in_default.ensures.next)
    ∙ c.loop-id.invariant.marked granted stored sound

-- counts don't see the marks of consumers
pub returns-clause-kept : goal.returns-clause-kept
returns-clause-kept g c =
    mesh_kept c.args.topo.now c.loop-id.topo
    (mesh_self c.args.topo.now c.loop-id.topo _ c.loop-id.invariant.mesh) c.loop-id.invariant.seen
