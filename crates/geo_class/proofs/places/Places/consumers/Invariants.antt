-- The consumers of the places so far.
use Rattle.std.proofs.Common.{flat_map, ◌≡◌, take}
use Rattle.std.specs.Option.{option_to_list}
use Rattle.geo_class.proofs.places.Places.consumers.Given as goal

abbrev pub invariant-loop-place : goal.invariant-loop-place
invariant-loop-place l = l.consumers.items ≡ flat_map option_to_list (take l.place-index l.place-items)
