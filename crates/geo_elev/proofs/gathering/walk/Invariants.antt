-- What waits of the bios that were passed.
use Rattle.std.proofs.Common.{◌≡◌, ◌-◌, ℕ, List, length}
use Rattle.geo_model.specs.declared.step.Entry.{Entry}
use Rattle.geo_drain.specs.Meshes.{world_of}
use Rattle.geo_elev.specs.Gathering.{bare_heads, heads_below}
use Rattle.geo_elev.proofs.gathering.walk.Given as goal

abbrev pub invariant-loop-bio : goal.invariant-loop-bio
invariant-loop-bio l = record {
  walked : (log : List Entry) (n : ℕ) → l.fn.disks ≡ bare_heads log n
      → l.disks ≡ heads_below (world_of l.mesh) log l.from n;
  length : length l.disks ≡ length l.fn.disks;
}

abbrev pub decreases-loop-bio : goal.decreases-loop-bio
decreases-loop-bio l = (world_of l.mesh).next_bio - l.from
