use Rattle.std.proofs.Common.{◌∙◌, Some, ap, slice_get, subst, sym}
use lib.ListN.{set}
use Rattle.geo_serve.specs.Drives.{drive_view}
use Rattle.geo_serve.specs.Serve.{Serves}
use Rattle.geo_jobs.specs.DriveList.{DriveListView}
use Rattle.geo_jobs.proofs.Places.{drive_at, drive_serves}
use Rattle.geo_jobs.proofs.drive_list.DriveList.answer.Goals as goal

-- the drive at the place is of the request's disk, which the room and the drive fit
pub serve-requires : goal.serve-requires
serve-requires g c =
    let serves = drive_serves (drive_view g.D.Disk.view) c.args.request.now c.args.room
    (drive_at c.self.inside.drives.items c.in-Some.place c.args.request.now.disk c.deref.ensures.value
    c.in-Some.ensures.some c.index_mut.ensures.value)
    (ap (λ (v : DriveListView _). v.items) c.self.view_is) c.requires.can in
    record { room = serves.1; can = serves.0 }

-- just the drive at the place served, and the bytes stay what they are wherever they are kept
pub returns : goal.returns
returns g c =
    let seen = drive_view g.D.Disk.view in
    let q = c.args.request.now in
    let items = c.self.inside.drives.items in
    let at = drive_at c.self.inside.drives.items c.in-Some.place c.args.request.now.disk c.deref.ensures.value
    c.in-Some.ensures.some c.index_mut.ensures.value in
    let view = ap (λ (v : DriveListView _). v.items) c.self.view_is in
    record {
      place = c.in-Some.place;
      old = c.index_mut.result.now.1;
      at = ap (λ l. slice_get l c.in-Some.place) (sym view) ∙ at.there ∙ ap (λ x. Some (q.disk, x.1)) (sym at.is);
      new = c.serve.new.disk;
      serves = subst (λ got. Serves q (seen c.index_mut.result.now.1) (seen c.serve.new.disk) got)
          (sym (c.pooled.ensures ∙ c.share-got.ensures ∙ c.fitted.ensures)) c.serve.ensures;
      drives = ap (λ n. set items c.in-Some.place (n, c.serve.new.disk)) (ap (λ x. x.0) at.is)
          ∙ ap (λ l. set l c.in-Some.place (q.disk, c.serve.new.disk)) view;
    }
