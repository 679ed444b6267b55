-- The sizes of the disks so far were read, and those of the others are read from here on.
use Rattle.std.proofs.Common.{length, ◌+◌, ◌≡◌, ◌≤◌, drop}
use Rattle.geo_headline.specs.Traces.{then_read}
use Rattle.geo_verify.specs.Forms.{IsBehind, sizes_from}
use Rattle.geo_verify.proofs.SizesRead.{add_facts}
use Rattle.geo_verify.proofs.sizes.read_sizes.Given as goal

abbrev pub invariant-loop-disk : goal.invariant-loop-disk
invariant-loop-disk l = record {
  reads : sizes_from l.fn.place l.disks
      ≡ then_read (sizes_from l.at (drop l.disk-index l.disks)) (add_facts l.facts.items);
  behind : IsBehind l.at l.fn.place;
  room : length l.disks ≤ l.facts.spare + l.disk-index;
}
