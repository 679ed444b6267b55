use Rattle.std.proofs.Common.{◌≡◌, ◌+◌, ◌-◌}
use Rattle.geo_bio.specs.Gather.{error_from}
use Rattle.geo_bio.proofs.gather.first_failure.Given as goal

-- no child before this place holds an error
abbrev pub invariant-loop-place : goal.invariant-loop-place
invariant-loop-place l =
    error_from l.bios.rows (l.first + l.place) (l.count - l.place) ≡ error_from l.bios.rows l.first l.count
