use Rattle.std.proofs.Common.{◌≡◌, ◌/◌, length, rules, ap}
use Rattle.std.specs.Prelude.{IsTrue}
use Rattle.geo_disk.specs.Drive.{view_by}
use Rattle.geo_model.specs.Words.{is_write}
use Rattle.geo_serve.specs.Drives.{DriveView, HasAllSectors, HasWholeSectors, drive_view}
use Rattle.geo_serve.specs.Serve.{fits_request, held_after}
use Rattle.geo_serve.proofs.Kept.{kept_all, kept_whole}
use Rattle.geo_serve.proofs.Whole.{sectors_in}
use Rattle.geo_serve.proofs.serving.serve.Goals as goal

-- the bytes are the sectors of the request; what the disk wrote of them is answered, and what it holds is still whole
pub returns-in-Write : goal.returns-in-Write
returns-in-Write g c =
    let whole : length c.args.request.now.bytes / (view_by g.D.Disk.view c.args.disk.now).sector
    ≡ c.args.request.now.count =
    sectors_in (view_by g.D.Disk.view c.args.disk.now).sector c.args.request.now.count
    (length c.args.request.now.bytes) c.requires.can.some_size (c.requires.can.bytes (ap is_write c.in-Write.is)) in
    let old : DriveView = drive_view g.D.Disk.view c.args.disk.now in
    let new : DriveView = drive_view g.D.Disk.view c.write.new.self in
    let fits : IsTrue (fits_request old.sector c.args.request.now c.answer.result) = search rules in
    let held : new.held ≡ held_after old.sector c.args.request.now c.answer.result old.held = search rules in
    let stays : HasWholeSectors old → HasWholeSectors new =
    kept_whole c.args.request.now old new c.answer.result c.requires.can fits held c.write.ensures.bytes in
    let many : HasAllSectors old → HasAllSectors new =
    kept_all c.args.request.now old new c.answer.result c.requires.can fits held c.write.ensures.count in
    search rules

-- what the disk zeroed is what is answered, and by whole sectors, so what it holds is still whole and as many
pub returns-in-Delete : goal.returns-in-Delete
returns-in-Delete g c =
    let old : DriveView = drive_view g.D.Disk.view c.args.disk.now in
    let new : DriveView = drive_view g.D.Disk.view c.zero.new.self in
    let fits : IsTrue (fits_request old.sector c.args.request.now c.answer-in-Delete.result) = search rules in
    let held : new.held ≡ held_after old.sector c.args.request.now c.answer-in-Delete.result old.held = search rules in
    let stays : HasWholeSectors old → HasWholeSectors new =
    kept_whole c.args.request.now old new c.answer-in-Delete.result c.requires.can fits held c.zero.ensures.bytes in
    let many : HasAllSectors old → HasAllSectors new =
    kept_all c.args.request.now old new c.answer-in-Delete.result c.requires.can fits held c.zero.ensures.count in
    search rules
