use Rattle.std.proofs.Common.{◌≡◌, ◌≤◌, length, map, take, vec_capacity, vec_len}
use Rattle.geo_run.specs.Drives.{drive_view}
use Rattle.geo_run.specs.Lending.{OpensDrives, names_of}
use Rattle.geo_run.proofs.lent.take_into.Given as goal

-- the disks so far were taken
abbrev pub invariant-loop-decl : goal.invariant-loop-decl
invariant-loop-decl g l = record {
  opened : OpensDrives
      (g.H.Shelf.view l.fn.shelf)
      (take l.decl-index l.decls)
      (map (drive_view g.H.D.Disk.view) l.lent.drives.items)
      (g.H.Shelf.view l.shelf);
  named : l.lent.names.items ≡ names_of (take l.decl-index l.decls);
  count : vec_len l.lent.drives ≡ l.decl-index;
  name_count : vec_len l.lent.names ≡ l.decl-index;
  room : length l.decls ≤ vec_capacity l.lent.drives;
  name_room : length l.decls ≤ vec_capacity l.lent.names;
}
