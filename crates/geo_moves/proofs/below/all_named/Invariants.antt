-- What was found so far, and then what is found for the names that are left.
use Rattle.std.proofs.Common.{◌≡◌, ◌++◌, map, drop}
use Rattle.geo_model.specs.GeomCommands.{found_providers}
use Rattle.geo_moves.specs.Below.{below_seen}
use Rattle.geo_moves.proofs.below.all_named.Given as goal

abbrev pub invariant-loop-name : goal.invariant-loop-name
invariant-loop-name l =
    l.list.items ++ map (below_seen l.topo.topology) (found_providers l.topo.topology (drop l.name-index l.names))
    ≡ map (below_seen l.topo.topology) (found_providers l.topo.topology l.names)
