-- One disk more, and the one that couldn't be had.
use Rattle.std.proofs.Common.{◌∙◌, arith}
use Rattle.geo_run.specs.Drives.{drive_view}
use Rattle.geo_run.proofs.Loops.{named_next, opens_item, stops_at}
use Rattle.geo_run.proofs.lent.take_into.Goals as goal

-- all before this disk were had, and this one couldn't be
pub returns-in-Err-clause-stopped : goal.returns-in-Err-clause-stopped
returns-in-Err-clause-stopped g c =
    let v = g.H.Shelf.view in
    stops_at (v c.args.shelf.now) (v c.loop-decl.shelf) (v c.open_drive.new.shelf) c.args.decls.now
    c.loop-decl.decl-index
    c.decl-item.result c.loop-decl.lent.names.items _ c.in-Err.stop c.loop-decl-test.true c.decl-item.is
    c.loop-decl.invariant.named c.loop-decl.invariant.opened c.in-Err.ensures.stopped

-- this disk was had too, and it and its name stand behind the others
pub loop-decl-preserved : goal.loop-decl-preserved
loop-decl-preserved g c =
    let f = drive_view g.H.D.Disk.view in
    let v = g.H.Shelf.view in
    record {
      opened = opens_item f (v c.args.shelf.now) (v c.loop-decl.shelf) (v c.open_drive.new.shelf) c.args.decls.now
          c.loop-decl.decl-index c.decl-item.result c.loop-decl.lent.drives.items _ c.in-Ok.drive c.loop-decl-test.true
          c.decl-item.is c.keep.ensures.drives c.loop-decl.invariant.opened c.in-Ok.ensures.opened;
      named = c.keep.ensures.names ∙ named_next c.args.decls.now c.loop-decl.decl-index c.decl-item.result
          c.loop-decl.lent.names.items c.loop-decl-test.true c.decl-item.is c.loop-decl.invariant.named;
      count = omega (arith, c.keep.ensures.count, c.loop-decl.invariant.count);
      name_count = omega (arith, c.keep.ensures.name_count, c.loop-decl.invariant.name_count);
      room = omega (arith, c.keep.ensures.room, c.loop-decl.invariant.room);
      name_room = omega (arith, c.keep.ensures.name_room, c.loop-decl.invariant.name_room);
    }
