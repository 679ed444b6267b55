use Rattle.std.proofs.Common.{◌≡◌, ◌∙◌, Err, Some, map, refl, sym, subst, ap}
use Rattle.std.proofs.lemmas.Result.{err_from_is_err_and}
use Rattle.geo_serve.specs.Drives.{drive_view}
use Rattle.geo_core.specs.Mesh.{MeshView, world_of}
use Rattle.geo_drain.specs.declared.refusal.DrainRefusal.TheVariants.{LogFull}
use Rattle.geo_drain.specs.Drain.{RanFull}
use Rattle.geo_drain.proofs.Full.{not_full, ran_full}
use Rattle.geo_drain.proofs.Going.{begins, goes_on}
use Rattle.geo_drain.proofs.Noting.{due_same, on_err, part_after, part_of_all}
use Rattle.geo_drain.proofs.drain.run_to_rest.Goals as goal

-- no step was made yet, and the order knows a part of the log
pub loop-pool-init : goal.loop-pool-init
loop-pool-init g c =
    let seen = drive_view g.D.Disk.view in (
      begins (g.O.Order.due c.args.order.now) c.args.mesh.now (map seen c.args.disks.now) c.requires.none_busy
          c.requires.fit,
      record { same = refl; part = c.requires.known },
    )

-- the step that was due was made, and what the order knew of all is a part of what there is now
pub loop-pool-preserved : goal.loop-pool-preserved
loop-pool-preserved g c =
    let seen = drive_view g.D.Disk.view in
    let order = g.O.Order.due c.args.order.now in
    let l = c.loop-pool in
    let run = l.invariant.0 in
    let due : order (world_of l.mesh) l.mesh.log ≡ Some c.in-Some.step =
    due_same order (g.O.Order.due c.note.new.self) (world_of l.mesh) l.mesh.log c.next.result c.in-Some.step
    (c.note.ensures.due ∙ l.invariant.1.same) c.next.ensures.due c.in-Some.is in (
      goes_on order c.args.mesh.now l.mesh c.turn.new.mesh (map seen c.args.disks.now) (map seen l.disks)
          (map seen c.turn.new.disks) c.in-Some.step run due c.in_ok-turn.ensures.history c.in_ok-turn.ensures.made,
      record {
        same = c.note.ensures.due ∙ l.invariant.1.same;
        part = part_after (g.O.Order.knows c.note.new.self) order l.mesh c.turn.new.mesh (map seen l.disks)
            (map seen c.turn.new.disks) c.in-Some.step run.none_busy run.fit due
            c.in_ok-turn.ensures.history c.in_ok-turn.ensures.made c.in_ok-note.ensures.noted;
      },
    )

pub returns-in_err-note-clause-full : goal.returns-in_err-note-clause-full
returns-in_err-note-clause-full g c = λ full.
    absurd (not_full c.from_residual.result c.from_residual.ensures.1 full)

-- the turn left the mesh as it was, and the step that was due there has no place in the log
pub returns-in_err-turn-clause-full : goal.returns-in_err-turn-clause-full
returns-in_err-turn-clause-full g c =
    let l = c.loop-pool in
    let order = g.O.Order.due c.args.order.now in
    let due : order (world_of l.mesh) l.mesh.log ≡ Some c.in-Some.step =
    due_same order (g.O.Order.due c.note.new.self) (world_of l.mesh) l.mesh.log c.next.result c.in-Some.step
    (c.note.ensures.due ∙ l.invariant.1.same) c.next.ensures.due c.in-Some.is in
    let p = err_from_is_err_and c.from_residual-in_err-turn.result c.from_residual-in_err-turn.ensures.1 in
    λ e.
    let same = sym p.1 ∙ e in
    let full : c.in_err-turn.field-0.0 ≡ LogFull = cc (same, p.2) in
    subst (λ (m : MeshView). RanFull order m) (sym c.in_err-turn.ensures.mesh)
    (ran_full order l.mesh c.in-Some.step c.next.ensures.history due (c.in_err-turn.ensures.full (ap Err full)))

-- so that what the order knew of all is still so
pub returns-in_err-turn-clause-part : goal.returns-in_err-turn-clause-part
returns-in_err-turn-clause-part g c =
    on_err c.from_residual-in_err-turn.result
    (part_of_all (g.O.Order.knows c.note.new.self) c.loop-pool.mesh c.turn.new.mesh c.in_err-turn.ensures.mesh
    c.in_ok-note.ensures.noted)
