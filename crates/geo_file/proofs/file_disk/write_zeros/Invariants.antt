use Rattle.std.proofs.Common.{◌≤◌, ◌-◌, replicate}
use Rattle.geo_file.specs.Pieces.{Puts}
use Rattle.geo_file.proofs.file_disk.write_zeros.Given as goal

-- no more zeros are written than are wanted, and those that are done are in the file
abbrev pub invariant-loop-done : goal.invariant-loop-done
invariant-loop-done l = record {
  few : l.done ≤ l.size;
  puts : Puts l.at (replicate l.done 0) l.initial.file l.file;
}

abbrev pub decreases-loop-done : goal.decreases-loop-done
decreases-loop-done l = l.size - l.done
