-- The targets of the consumers so far, and room for the others.
use Rattle.std.proofs.Common.{◌≡◌, ◌+◌, ◌≤◌, length, map, take}
use Rattle.geo_moves.specs.Ways.{through}
use Rattle.geo_moves.proofs.cut.targets_of.Given as goal

abbrev pub invariant-loop-cons : goal.invariant-loop-cons
invariant-loop-cons l =
    (l.targets.items ≡ map (through l.topo.topology) (take l.cons-index l.consumers))
    × (length l.consumers ≤ l.targets.spare + l.cons-index)
