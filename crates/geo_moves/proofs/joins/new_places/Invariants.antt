-- So far each number from the first on was put behind.
use Rattle.std.proofs.Common.{◌≡◌, ◌-◌, map, Some}
use Rattle.std.specs.List.{range_with_len}
use Rattle.geo_moves.proofs.joins.new_places.Given as goal

abbrev pub invariant-loop-number : goal.invariant-loop-number
invariant-loop-number l = l.places.items ≡ map (λ c. Some c) (range_with_len l.first (l.number - l.first))
