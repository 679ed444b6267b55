use Rattle.std.proofs.Common.{◌≤◌, ◌-◌, length, take}
use Rattle.geo_file.specs.Pieces.{Puts}
use Rattle.geo_file.proofs.file_disk.write_bytes.Given as goal

-- no write goes past the end of the bytes, and those before it are in the file
abbrev pub invariant-loop-done : goal.invariant-loop-done
invariant-loop-done l = record {
  few : l.done ≤ length l.bytes;
  puts : Puts l.at (take l.done l.bytes) l.initial.file l.file;
}

abbrev pub decreases-loop-done : goal.decreases-loop-done
decreases-loop-done l = length l.bytes - l.done
