-- With the entries that are left, the places that were found become those of all.
use Rattle.std.proofs.Common.{◌≡◌, drop, replicate, None}
use Rattle.geo_report.specs.Places.{places}
use Rattle.geo_report.proofs.places.places_below.Given as goal

abbrev pub invariant-loop-place : goal.invariant-loop-place
invariant-loop-place l =
    places (drop l.place l.log) l.place l.found.items ≡ places l.log 0 (replicate l.fn.lines None)
