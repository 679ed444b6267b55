use Rattle.std.proofs.Common.{◌≡◌, drop}
use Rattle.std.specs.List.{find}
use Rattle.geo_nbd.specs.Handshake.{is_meant}
use Rattle.geo_nbd.proofs.export.export_of.Given as goal

-- what is looked for is among those that are left
abbrev pub invariant-loop-export : goal.invariant-loop-export
invariant-loop-export l = find (is_meant l.name) l.exports ≡ find (is_meant l.name) (drop l.export-index l.exports)
