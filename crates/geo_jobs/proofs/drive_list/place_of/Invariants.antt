-- None of the drives so far is of the disk.
use Rattle.std.proofs.Common.{◌≡◌, ◌<◌, ℕ, slice_index_or}
use Rattle.geo_jobs.proofs.drive_list.place_of.Given as goal

abbrev pub invariant-loop-k : goal.invariant-loop-k
invariant-loop-k g l = (i : ℕ) (d : _) → i < l.k → (slice_index_or l.drives i d).0 ≡ l.disk → ⊥
