-- The heads after the entries so far.
use Rattle.std.proofs.Common.{◌≡◌, ℕ, [], length, take}
use Rattle.geo_elev.specs.Gathering.{bare_heads}
use Rattle.geo_elev.proofs.gathering.see_all.Given as goal

abbrev pub invariant-loop-entry : goal.invariant-loop-entry
invariant-loop-entry l = record {
  seen : (n : ℕ) → l.fn.disks ≡ bare_heads [] n → l.disks ≡ bare_heads (take l.entry-index l.entries) n;
  length : length l.disks ≡ length l.fn.disks;
}
