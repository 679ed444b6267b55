use Rattle.std.proofs.Common.{◌≡◌, ◌+◌, ◌-◌, ◌++◌}
use Rattle.geo_bio.specs.Gather.{bytes_from}
use Rattle.geo_bio.proofs.gather.joined.Given as goal

-- the bytes so far, with those of the children that are left, are those of all
abbrev pub invariant-loop-place : goal.invariant-loop-place
invariant-loop-place g l =
    l.bytes.items ++ bytes_from (g.B.LogBytes.place_bytes l.log) l.bios.rows (l.first + l.place)
    (l.count - l.place) ≡ bytes_from (g.B.LogBytes.place_bytes l.log) l.bios.rows l.first l.count
