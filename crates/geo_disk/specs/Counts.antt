-- Counts of calls and of faults.
use Rattle.std.specs.Prelude.{ℕ, zero, suc, ◌+◌, ◌-◌, ◌^◌, nat_lt, Bool, if◌then◌else◌}

-- one more; a count stands still at the end of its type
abbrev pub counted_on : ℕ → ℕ
counted_on n = if nat_lt n (2 ^ 64 - 1) then n + 1 else n

-- one more where the test says so
abbrev pub counted_if : Bool → ℕ → ℕ
counted_if more n = if more then counted_on n else n

-- so many more
abbrev pub counted_many : ℕ → ℕ → ℕ
counted_many zero n = n
counted_many (suc k) n = counted_on (counted_many k n)
