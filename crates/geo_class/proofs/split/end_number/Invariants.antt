-- The number that the bytes so far end with, up to the bound.
use Rattle.std.proofs.Common.{◌≡◌, take, min}
use Rattle.geo_model.specs.Place.{end_number}
use Rattle.geo_class.proofs.split.end_number.Given as goal

abbrev pub invariant-loop-byte : goal.invariant-loop-byte
invariant-loop-byte l = l.number ≡ min (end_number (take l.byte-index l.byte-items)) 1000
