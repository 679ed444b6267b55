use Rattle.std.proofs.Common.{◌∙◌, ap, map, rules, subst}
use Rattle.std.proofs.lemmas.List.{length-replicate}
use Rattle.std.specs.Prelude.{length}
use Rattle.geo_model.specs.declared.step.Outcome.{Outcome}
use Rattle.geo_model.specs.declared.step.Request.{Request}
use Rattle.geo_model.specs.declared.step.Step.TheVariants as steps
use Rattle.geo_serve.specs.Drives.{drive_view}
use Rattle.geo_core.specs.Mesh.{Made}
use Rattle.geo_drain.proofs.Full.{not_full}
use Rattle.geo_drain.proofs.Taking.{TakesRequest, can_at, ends_with, is_answered, is_enabled_after, is_within, room_at, takes_last, takes_request}
use Rattle.geo_drain.proofs.turn.take.Goals as goal

pub returns-in_err-room-clause-full : goal.returns-in_err-room-clause-full
returns-in_err-room-clause-full g c = λ full.
    absurd (not_full c.from_residual.result c.from_residual.ensures.1 full)

-- the Take was made, so the last entry asks its disk
pub last_request-request-requires : goal.last_request-request-requires
last_request-request-requires g c =
    let seen = drive_view g.D.Disk.view in
    let o : Outcome = c.in_ok-make.ensures.made.0 in
    let it : (q : Request) × TakesRequest c.args.mesh.now c.make.new.mesh (map seen c.args.disks.now) c.args.bio o q =
    takes_request c.args.mesh.now c.make.new.mesh (map seen c.args.disks.now) c.args.disk c.args.bio o
    c.requires.history c.in_ok-make.ensures.history c.requires.fit c.in_ok-make.ensures.made.1 in (
      it.0,
      ends_with c.args.mesh.now c.make.new.mesh c.args.disk c.args.bio o it.0 c.in_ok-make.ensures.made.1
          it.1.asked,
    )

-- that request fits the drive of its disk, which is there
pub bounds-disks-request : goal.bounds-disks-request
bounds-disks-request g c =
    is_within (drive_view g.D.Disk.view) c.args.disks.now
    (takes_last (map (drive_view g.D.Disk.view) c.args.disks.now) c.requires.history
    c.in_ok-make.ensures.history c.requires.fit c.in_ok-make.ensures.made.1 c.last_request-request.ensures)

pub offset_bounds-disks-request : goal.offset_bounds-disks-request
offset_bounds-disks-request g c =
    let it = takes_last (map (drive_view g.D.Disk.view) c.args.disks.now) c.requires.history
    c.in_ok-make.ensures.history c.requires.fit c.in_ok-make.ensures.made.1 c.last_request-request.ensures in
    let within = is_within (drive_view g.D.Disk.view) c.args.disks.now it in
    search (rules, within)

pub serve-requires-clause-can : goal.serve-requires-clause-can
serve-requires-clause-can g c =
    can_at (drive_view g.D.Disk.view) c.args.disks.now
    (takes_last (map (drive_view g.D.Disk.view) c.args.disks.now) c.requires.history
    c.in_ok-make.ensures.history c.requires.fit c.in_ok-make.ensures.made.1 c.last_request-request.ensures)
    c.index-disks-request.result

pub serve-requires-clause-room : goal.serve-requires-clause-room
serve-requires-clause-room g c =
    room_at (drive_view g.D.Disk.view) c.args.disks.now
    (takes_last (map (drive_view g.D.Disk.view) c.args.disks.now) c.requires.history
    c.in_ok-make.ensures.history c.requires.fit c.in_ok-make.ensures.made.1 c.last_request-request.ensures)
    c.index-disks-request.result c.in_ok-room.room
    (ap length c.in_ok-room.ensures ∙ length-replicate c.room.result 0 ∙ c.room.ensures)

-- sharing the bytes leaves them, and the bio was just taken by seat 0, so its Deliver is never refused
pub unreachable-requires : goal.unreachable-requires
unreachable-requires g c =
    let it = takes_last (map (drive_view g.D.Disk.view) c.args.disks.now) c.requires.history
    c.in_ok-make.ensures.history c.requires.fit c.in_ok-make.ensures.made.1 c.last_request-request.ensures in
    let ok =
    c.in-Err.ensures.sure
    (is_enabled_after (drive_view g.D.Disk.view) c.args.disks.now it c.index-disks-request.result c.serve.new.disk
    c.pooled-got.result (rw (c.pooled-got.ensures ∙ c.share.ensures) c.serve.ensures)) in
    let no : ⊥ = cc ok in no

-- the Take, the answer of the drive and its Deliver
pub returns-clause-made : goal.returns-clause-made
returns-clause-made g c =
    let seen = drive_view g.D.Disk.view in
    let it = takes_last (map (drive_view g.D.Disk.view) c.args.disks.now) c.requires.history
    c.in_ok-make.ensures.history c.requires.fit c.in_ok-make.ensures.made.1 c.last_request-request.ensures in
    record {
      taken = c.make.new.mesh;
      request = c.last_request-request.result.now;
      take = subst (λ (o : Outcome). Made c.args.mesh.now c.make.new.mesh 0 (steps.Take c.args.disk c.args.bio) o)
          it.asked c.in_ok-make.ensures.made.1;
      got = c.pooled-got.result;
      answers = is_answered seen c.args.disks.now it c.index-disks-request.result c.serve.new.disk
          c.pooled-got.result (rw (c.pooled-got.ensures ∙ c.share.ensures) c.serve.ensures);
      outcome = c.in-Ok.ensures.answer.0;
      deliver = c.in-Ok.ensures.answer.1;
    }
