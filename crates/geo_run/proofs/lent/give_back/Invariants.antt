use Rattle.std.proofs.Common.{◌≡◌, ◌++◌, ℕ, List, length, map, take, drop, slice_get}
use Rattle.std.specs.Vec.Iter.{into_iter_items}
use Rattle.geo_run.specs.Drives.{drive_view}
use Rattle.geo_run.specs.Lending.{AreOut, GivesBack}
use Rattle.geo_run.proofs.lent.give_back.Given as goal

-- the drives so far were given back, and the others are out
abbrev pub invariant-loop-drive : goal.invariant-loop-drive
invariant-loop-drive g l = record {
  place : l.place ≡ length l.yielded;
  all : l.fn.lent.drives.items ≡ l.yielded ++ into_iter_items l.drive-iterator;
  given : (kept : List (List ℕ)) × (l.kept ≡ slice_get kept 0) × GivesBack
      (g.H.Shelf.view l.fn.shelf)
      (take (length l.yielded) l.names.items)
      (map (drive_view g.H.D.Disk.view) l.yielded) kept
      (g.H.Shelf.view l.shelf);
  out : AreOut
      (g.H.Shelf.view l.shelf)
      (drop (length l.yielded) l.names.items)
      (map (drive_view g.H.D.Disk.view)
      (into_iter_items l.drive-iterator));
}
