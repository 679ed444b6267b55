-- Counts of calls.
use Rattle.std.specs.Prelude.{◌≡◌, ℕ, ◌+◌, ◌-◌, ◌^◌, ◌≤◌, min, Bool, IsTrue}

-- a count with one more; it stands still at the end of its type
abbrev pub raised : ℕ → ℕ
raised n = min (n + 1) (2 ^ 64 - 1)

-- a call was counted at most once, and no count falls
pub record CountsOnce (before now : ℕ) : Type 0 where
  pub later : before ≤ now
  pub once : now ≤ before + 1

-- of all calls one failed, and it was the last
pub record FailedAtLast (before now : ℕ) (failed : Bool) : Type 0 where
  pub one : now ≡ raised before
  pub last : IsTrue failed
