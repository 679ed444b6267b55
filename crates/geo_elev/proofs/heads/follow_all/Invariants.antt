-- The disks after the entries so far.
use Rattle.std.proofs.Common.{◌≡◌, ◌-◌, ℕ, length, take}
use Rattle.geo_drain.specs.Meshes.{opened}
use Rattle.geo_elev.specs.Following.{heads_at}
use Rattle.geo_elev.proofs.heads.follow_all.Given as goal

abbrev pub invariant-loop-at : goal.invariant-loop-at
invariant-loop-at l = record {
  followed : (n : ℕ) → l.fn.disks ≡ heads_at (opened l.mesh) (take l.fn.noted l.mesh.log) n
      → l.disks ≡ heads_at (opened l.mesh) (take l.at l.mesh.log) n;
  length : length l.disks ≡ length l.fn.disks;
}

abbrev pub decreases-loop-at : goal.decreases-loop-at
decreases-loop-at l = length l.mesh.log - l.at
