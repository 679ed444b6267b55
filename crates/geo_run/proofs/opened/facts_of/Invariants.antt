use Rattle.std.proofs.Common.{◌≡◌, ◌+◌, ◌≤◌, length, map, take}
use Rattle.geo_run.specs.Drives.{drive_view, size_of}
use Rattle.geo_run.proofs.opened.facts_of.Given as goal

-- the sizes of the drives so far
abbrev pub invariant-loop-drive : goal.invariant-loop-drive
invariant-loop-drive g l = record {
  sizes : l.facts.items ≡ map size_of (map
      (drive_view g.D.Disk.view)
      (take l.drive-index l.drives));
  room : length l.drives ≤ l.drive-index + l.facts.spare;
}
