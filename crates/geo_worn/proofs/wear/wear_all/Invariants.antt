use Rattle.std.proofs.Common.{◌≡◌, ◌++◌, map, take, drop}
use Rattle.geo_disk.specs.Counts.{counted_on}
use Rattle.geo_worn.proofs.wear.wear_all.Given as goal

-- what is passed had one write more
abbrev pub invariant-loop-written : goal.invariant-loop-written
invariant-loop-written l =
    l.writes ≡ map counted_on (take l.written-index l.fn.writes) ++ drop l.written-index l.fn.writes
