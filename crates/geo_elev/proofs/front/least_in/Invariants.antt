-- Those that are left give the least of all.
use Rattle.std.proofs.Common.{◌≡◌, drop}
use Rattle.geo_elev.specs.Front.{keys_in, least_with}
use Rattle.geo_elev.proofs.front.least_in.Given as goal

abbrev pub invariant-loop-key : goal.invariant-loop-key
invariant-loop-key l =
    least_with l.low (keys_in (drop l.key-index l.keys)) l.least ≡ least_with l.low (keys_in l.keys) l.fn.found
