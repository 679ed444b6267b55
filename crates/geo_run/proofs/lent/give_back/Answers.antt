-- One drive after the other.
use Rattle.std.proofs.Common.{◌≡◌, ◌<◌, ◌∷◌, [], ◌++◌, length, map, refl, sym, ◌∙◌, ap, subst, arith, append_assoc}
use Rattle.std.proofs.lemmas.List.{length-append}
use Rattle.std.specs.Vec.Iter.{into_iter_items}
use Rattle.geo_run.specs.Drives.{drive_view}
use Rattle.geo_run.specs.Lending.{AreOut}
use Rattle.geo_run.proofs.Loops.{gave_all, gave_item, item_out, name_at, name_left, name_there, next_out, rest_out}
use Rattle.geo_run.proofs.lent.give_back.Goals as goal

-- there are as many names as drives, and a drive is left
pub index-name-requires : goal.index-name-requires
index-name-requires g c =
    let lt = name_there (drive_view g.H.D.Disk.view) (g.H.Shelf.view c.loop-drive.shelf) c.args.lent.names.items
    (length c.loop-drive.yielded) (into_iter_items c.loop-drive.drive-iterator) c.in-Some.drive
    (into_iter_items c.next.new.self) c.in-Some.ensures.steps.0 c.loop-drive.invariant.out in
    omega (arith, lt, c.args.lent.names.ok.0, c.loop-drive.invariant.place)

-- the drive that is next has the name at its place, and is out by it
pub give_drive-given-requires : goal.give_drive-given-requires
give_drive-given-requires g c =
    let f = drive_view g.H.D.Disk.view in
    let s = g.H.Shelf.view c.loop-drive.shelf in
    let names = c.args.lent.names.items in
    let n = length c.loop-drive.yielded in
    let here = item_out f s names n (into_iter_items c.loop-drive.drive-iterator) c.in-Some.drive
    (into_iter_items c.next.new.self) c.in-Some.ensures.steps.0 c.loop-drive.invariant.out in
    let lt : n < length names =
    name_left s names n (f c.in-Some.drive) (map f (into_iter_items c.next.new.self)) here in
    let at = name_at names c.loop-drive.invariant.place c.index-name.ensures in
    record {
      out = (next_out s names n c.index-name.result.now (f c.in-Some.drive)
          (map f (into_iter_items c.next.new.self)) lt at here).0;
    }

pub loop-drive-init : goal.loop-drive-init
loop-drive-init g c =
    let f = drive_view g.H.D.Disk.view in
    let s = g.H.Shelf.view c.args.shelf.now in
    let gives : into_iter_items c.into_iter-drive-iterator.result ≡ c.args.lent.drives.items =
    c.into_iter-drive-iterator.ensures.into_iter_gives.0 in
    record {
      place = refl;
      all = sym gives;
      given = ([], refl, (refl, refl));
      out = subst (λ xs. AreOut s c.args.lent.names.items (map f xs)) (sym gives) c.requires.out;
    }

-- this drive was given back by its name or kept, and that leaves the others out
pub loop-drive-preserved : goal.loop-drive-preserved
loop-drive-preserved g c =
    let f = drive_view g.H.D.Disk.view in
    let v = g.H.Shelf.view in
    let names = c.args.lent.names.items in
    let items = c.loop-drive.yielded in
    let rest = into_iter_items c.next.new.self in
    let here = item_out f (v c.loop-drive.shelf) names (length items) (into_iter_items c.loop-drive.drive-iterator)
    c.in-Some.drive
    rest c.in-Some.ensures.steps.0 c.loop-drive.invariant.out in
    let lt : length items < length names =
    name_left (v c.loop-drive.shelf) names (length items) (f c.in-Some.drive) (map f rest) here in
    let at = name_at names c.loop-drive.invariant.place c.index-name.ensures in
    record {
      place = let more = length-append items (c.in-Some.drive ∷ []) in
          omega (arith, more, c.loop-drive.invariant.place);
      all = c.loop-drive.invariant.all ∙ ap (λ xs. items ++ xs) c.in-Some.ensures.steps.0
          ∙ sym (append_assoc items (c.in-Some.drive ∷ []) rest);
      given = gave_item f (v c.args.shelf.now) (v c.loop-drive.shelf) (v c.give_drive-given.new.shelf) names items
          c.in-Some.drive
          c.index-name.result.now c.loop-drive.kept c.first_kept-kept.result c.give_drive-given.result lt at
          c.first_kept-kept.ensures c.loop-drive.invariant.given c.give_drive-given.ensures;
      out = rest_out f (v c.loop-drive.shelf) (v c.give_drive-given.new.shelf) names items c.in-Some.drive rest
          c.index-name.result.now _ lt at here c.give_drive-given.ensures;
    }

-- none is left, so all were given back but those that are kept, the first of which comes back
pub returns : goal.returns
returns g c =
    let f = drive_view g.H.D.Disk.view in
    let v = g.H.Shelf.view in
    let none : length (into_iter_items c.loop-drive.drive-iterator) ≡ 0 =
    omega (arith, c.loop-drive.drive-iterator.rest.ok.0, c.in-None.ensures.steps.0) in (
      c.loop-drive.invariant.given.0,
      c.loop-drive.invariant.given.1,
      gave_all f (v c.args.shelf.now) (v c.loop-drive.shelf) c.args.lent.names.items c.args.lent.drives.items
          c.loop-drive.yielded
          (into_iter_items c.loop-drive.drive-iterator) c.loop-drive.invariant.given.0 c.loop-drive.invariant.all none
          c.loop-drive.invariant.out c.loop-drive.invariant.given.2,
    )
